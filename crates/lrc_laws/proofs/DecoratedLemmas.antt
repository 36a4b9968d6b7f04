-- What a decorated node holds, and that all actions of its plan are made on it where its symbols serve their visits.
use Rattle.std.proofs.Common.{◌≡◌, ℕ, zero, suc, ◌+◌, ◌-◌, ◌<◌, ◌≤◌, IsTrue, ◌==◌, List, [], ◌∷◌, ◌++◌, map, length, get_or, Contains, Option, Some, ◌⊎◌, inl, inr, slice_get, refl, sym, ap, ◌∙◌, subst, arith, append_assoc, length-append}
use Rattle.std.specs.Prelude.{flat_map, slice_index_or}
use Rattle.std.specs.Option.{option_map, option_map_or, option_and_then}
use Rattle.std.specs.List.{AllByRecursion}
use Rattle.std.proofs.lemmas.Bool.{cases_lt, eqb-true}
use Rattle.std.proofs.lemmas.Option.{none-some, same_Some, slice_get-map, slice_get_within, slice_get-get_or, get_or_from_slice_get}
use Rattle.std.proofs.lemmas.List.{length-map, get_or_append_left, get_or-append-add}
use Rattle.std.proofs.lemmas.List.FromFn.{fill_by_all}
use Rattle.lrc_base.specs.declared.grammar.Kind.TheVariants as k
use Rattle.lrc_base.specs.declared.grammar.Kid.{Kid}
use Rattle.lrc_base.specs.declared.grammar.Equation.{Equation}
use Rattle.lrc_base.specs.declared.grammar.Production.{Production}
use Rattle.lrc_meaning.specs.Tree.{Tree, node, is_left}
use Rattle.lrc_meaning.specs.Expression.{expression, value_of}
use Rattle.lrc_meaning.specs.Grammar.{Grammar, attrs_of_sort, attrs_of, occurrences_of, own_occurrence, symbol_occurrence, extra_occurrences, is_well_formed}
use Rattle.lrc_meaning.specs.Attribution.{Decorated, at_node, Parts, end, symbol, bare, bare_kids, attributes_of, production_of, kid_values, extra_values, occurrence_values, leaf_at, kids_agree, extras_agree, Holds, IsNodeRight, IsRight, AreRight, height, highest}
use Rattle.lrc_meaning.specs.Attribution as m
use Rattle.lrc_meaning.proofs.KindLemmas.{left_kind}
use Rattle.lrc_meaning.proofs.ListLemmas.{slice_left, slice_right}
use Rattle.lrc_order_meaning.specs.declared.Place.{Place}
use Rattle.lrc_order_meaning.specs.declared.Partition.{Partition}
use Rattle.lrc_order_meaning.specs.Needs.{symbols_of, kid_symbols, extra_symbols, own_end, kids_end, left_place}
use Rattle.lrc_plan_meaning.specs.declared.Action.TheVariants as a
use Rattle.lrc_plan_meaning.specs.declared.Bound.TheVariants as b
use Rattle.lrc_plan_meaning.specs.Items.{symbol_at}
use Rattle.lrc_plan_meaning.specs.Bindings.{binding as items_between}
use Rattle.lrc_plan_meaning.specs.Sound.{IsSound, IsVisitThere}
use Rattle.lrc_visit_meaning.specs.Values.{value, Data, data_row, value_in, no_tree, Call, Result}
use Rattle.lrc_visit_meaning.specs.Visits.{Held, values_in, leaf_in, symbol_trees, equation_of, evaluated, tree_at, is_of_kind, step, one_visit, plain_visit}
pub use Rattle.lrc_visit_meaning.specs.Shown.{no_bound, held_of, bound_of, bounds_of, face_of, node_held}
use Rattle.lrc_visit_meaning.specs.Shown.{no_height, visit_height, heights_of}
use Rattle.lrc_order_meaning.proofs.MemberLemmas.{member_slice, slice_of_member}
use Rattle.lrc_laws.proofs.FuelLemmas.{max_left, max_right}
use Rattle.lrc_laws.proofs.HeldLemmas.{IsMade}
use Rattle.lrc_laws.proofs.ReadLemmas.{found_there, value_same}
use Rattle.lrc_laws.proofs.NodeLemmas.{IsProper, Serves, own_face, symbol_face, AllMade, AreAlike, serves_alike, visit_made, node_serves}
use Rattle.lrc_laws.proofs.PartLemmas.{symbols_in, symbols_right, symbols_low, bare_of_kind, kids_of_kinds, leaf_same, symbol_trees_are, kid_symbol, extra_symbol, kid_counts, extra_counts}
use Rattle.lrc_laws.proofs.FormedLemmas.{equation_there}

pub sort_same : (s r : ℕ) → k.Sort s ≡ k.Sort r → s ≡ r
sort_same s r e = cc

pub held_proper : (vs : List Tree) (bs : List (ℕ → ℕ → Data)) → IsProper (held_of vs bs)
held_proper vs bs = record { values = λ o. refl; bindings = λ s u w. refl }

module _ (g : Grammar) (parts : List Partition) where
  bounds_are : (ps : Parts) → bounds_of g parts ps ≡ map (λ d u w. bound_of g parts d u w) (symbols_in ps)
  bounds_are end = refl
  bounds_are (m.value v rest) = bounds_are rest
  bounds_are (symbol d rest) = ap (λ bs. (λ u w. bound_of g parts d u w) ∷ bs) (bounds_are rest)

  bounds_at : (ps : Parts) (i : ℕ) (d : Decorated) → slice_get (symbols_in ps) i ≡ Some d → get_or (bounds_of g parts ps) i no_bound ≡ (λ u w. bound_of g parts d u w)
  bounds_at ps i d e =
      get_or_from_slice_get (bounds_of g parts ps) i (λ u w. bound_of g parts d u w) no_bound
      (ap (λ bs. slice_get bs i) (bounds_are ps) ∙ slice_get-map (λ d u w. bound_of g parts d u w) (symbols_in ps) i ∙ ap (option_map (λ d u w. bound_of g parts d u w)) e)

  heights_are : (ps : Parts) → heights_of g parts ps ≡ map (λ d v. visit_height g parts d v) (symbols_in ps)
  heights_are end = refl
  heights_are (m.value v rest) = heights_are rest
  heights_are (symbol d rest) = ap (λ hs. (λ v. visit_height g parts d v) ∷ hs) (heights_are rest)

  heights_at : (ps : Parts) (i : ℕ) (d : Decorated) → slice_get (symbols_in ps) i ≡ Some d → get_or (heights_of g parts ps) i no_height ≡ (λ v. visit_height g parts d v)
  heights_at ps i d e =
      get_or_from_slice_get (heights_of g parts ps) i (λ v. visit_height g parts d v) no_height
      (ap (λ hs. slice_get hs i) (heights_are ps) ∙ slice_get-map (λ d v. visit_height g parts d v) (symbols_in ps) i ∙ ap (option_map (λ d v. visit_height g parts d v)) e)

  heights_count : (ps : Parts) → length (heights_of g parts ps) ≡ length (symbols_in ps)
  heights_count ps = ap (length {A = ℕ → ℕ}) (heights_are ps) ∙ length-map (symbols_in ps) (λ d v. visit_height g parts d v)

  bounds_count : (ps : Parts) → length (bounds_of g parts ps) ≡ length (symbols_in ps)
  bounds_count ps = ap (length {A = ℕ → ℕ → Data}) (bounds_are ps) ∙ length-map (symbols_in ps) (λ d u w. bound_of g parts d u w)

  module _ (q : Production) (own : List Tree) (kids extras : Parts) (right : IsNodeRight g q own kids extras) (kids_right : AreRight g kids) (extras_right : AreRight g extras) where
    abbrev whole : List Tree
    whole = occurrence_values own kids extras

    abbrev held : Held
    held = node_held g parts own kids extras

    -- the decorated tree that is symbol s
    pub record IsSymbol (s : ℕ) (d : Decorated) : Type 0 where
      pub listed : slice_get (symbols_in kids ++ symbols_in extras) s ≡ Some d
      pub height : slice_index_or (heights_of g parts kids ++ heights_of g parts extras) s no_height ≡ (λ v. visit_height g parts d v)
      pub among : Contains (symbols_in kids) d ⊎ Contains (symbols_in extras) d
      pub of_sort : IsTrue (is_left g.prods (production_of d) (k.Sort (symbol_at g.sorts q s).sort))
      pub tree : tree_at g q (bare_kids kids) held s ≡ bare d
      pub attrs : (x : ℕ) → x < length (attrs_of_sort g.sorts (symbol_at g.sorts q s).sort)
          → slice_index_or whole ((symbol_at g.sorts q s).start + x) no_tree ≡ slice_index_or (attributes_of d) x no_tree
      pub bound : slice_index_or (bounds_of g parts kids ++ bounds_of g parts extras) s no_bound ≡ (λ u w. bound_of g parts d u w)

    abbrev kid_places : List Place
    kid_places = kid_symbols g.sorts (own_end g.sorts q) q.kids

    abbrev extra_places : List Place
    extra_places = extra_symbols g.sorts (kids_end g.sorts q) q.extras

    kid_is : (s : ℕ) → s < length kid_places → (d : Decorated) × IsSymbol s d
    kid_is s less =
        let place = get_or kid_places s (left_place q) in
        let is : symbol_at g.sorts q s ≡ place = get_or_append_left kid_places extra_places (left_place q) s less in
        let count : own_end g.sorts q ≡ length own = sym right.owns in
        let found = kid_symbol g q.kids kids own (extra_values extras) (own_end g.sorts q) s place count right.has_kids kids_right (slice_get-get_or kid_places s (left_place q) less) in
        let d = found.0.tree in
        let in_kids = slice_get_within (symbols_in kids) s d found.0.is_there in
        let within : s < length (bounds_of g parts kids) = subst (λ n. s < n) (sym (bounds_count kids)) in_kids in (
          d,
          record {
            listed = slice_left (symbols_in kids) (symbols_in extras) s in_kids ∙ found.0.is_there;
            height = get_or_append_left (heights_of g parts kids) (heights_of g parts extras) no_height s (subst (λ n. s < n) (sym (heights_count kids)) in_kids) ∙ heights_at kids s d found.0.is_there;
            among = inl (member_slice (symbols_in kids) s d found.0.is_there);
            of_sort = subst (λ (pl : Place). IsTrue (is_left g.prods (production_of d) (k.Sort pl.sort))) (sym is) found.0.stands.of_sort;
            tree =
                ap (λ (pl : Place). option_map_or (λ x. value_in (held (b.Value x))) pl.tree (slice_index_or (symbol_trees q.kids (bare_kids kids)) s no_tree)) is
                ∙ ap (λ t. option_map_or (λ x. value_in (held (b.Value x))) t (slice_index_or (symbol_trees q.kids (bare_kids kids)) s no_tree)) found.1
                ∙ ap (λ ts. get_or ts s no_tree) (symbol_trees_are g.prods q.kids kids right.has_kids)
                ∙ get_or_from_slice_get (map bare (symbols_in kids)) s (bare d) no_tree (slice_get-map bare (symbols_in kids) s ∙ ap (option_map bare) found.0.is_there);
            attrs = subst (λ (pl : Place). (x : ℕ) → x < length (attrs_of_sort g.sorts pl.sort) → slice_index_or whole (pl.start + x) no_tree ≡ slice_index_or (attributes_of d) x no_tree) (sym is) found.0.stands.attrs;
            bound = get_or_append_left (bounds_of g parts kids) (bounds_of g parts extras) no_bound s within ∙ bounds_at kids s d found.0.is_there;
          },
        )

    extra_is : (s j : ℕ) → s ≡ length kid_places + j → j < length extra_places → (d : Decorated) × IsSymbol s d
    extra_is s j at less =
        let place = get_or extra_places j (left_place q) in
        let is : symbol_at g.sorts q s ≡ place = ap (λ i. get_or (kid_places ++ extra_places) i (left_place q)) at ∙ get_or-append-add kid_places extra_places j (left_place q) in
        let counts = kid_counts g q.kids kids (own_end g.sorts q) right.has_kids kids_right in
        let count : own_end g.sorts q ≡ length own = sym right.owns in
        let both = length-append own (kid_values kids) in
        let start : kids_end g.sorts q ≡ length (own ++ kid_values kids) = omega (arith, count, both, counts.1) in
        let found = extra_symbol g q.extras extras (own ++ kid_values kids) (kids_end g.sorts q) j place start right.has_extras extras_right (slice_get-get_or extra_places j (left_place q) less) in
        let d = found.symbol_there.tree in
        let same : (own ++ kid_values kids) ++ extra_values extras ≡ whole = append_assoc own (kid_values kids) (extra_values extras) in
        let bounds = bounds_count kids in
        let shift : s ≡ length (bounds_of g parts kids) + j = omega (arith, at, bounds, counts.0) in
        let in_extras : s ≡ length (symbols_in kids) + j = omega (arith, at, counts.0) in
        let high = heights_count kids in
        let further : s ≡ length (heights_of g parts kids) + j = omega (arith, at, high, counts.0) in (
          d,
          record {
            listed = slice_right (symbols_in kids) (symbols_in extras) s j in_extras ∙ found.symbol_there.is_there;
            height =
                ap (λ i. get_or (heights_of g parts kids ++ heights_of g parts extras) i no_height) further
                ∙ get_or-append-add (heights_of g parts kids) (heights_of g parts extras) j no_height ∙ heights_at extras j d found.symbol_there.is_there;
            among = inr (member_slice (symbols_in extras) j d found.symbol_there.is_there);
            of_sort = subst (λ (pl : Place). IsTrue (is_left g.prods (production_of d) (k.Sort pl.sort))) (sym is) found.symbol_there.stands.of_sort;
            tree =
                ap (λ (pl : Place). option_map_or (λ x. value_in (held (b.Value x))) pl.tree (slice_index_or (symbol_trees q.kids (bare_kids kids)) s no_tree)) is
                ∙ ap (λ t. option_map_or (λ x. value_in (held (b.Value x))) t (slice_index_or (symbol_trees q.kids (bare_kids kids)) s no_tree)) found.has_tree
                ∙ ap (λ vs. get_or vs found.at no_tree) (sym same)
                ∙ found.value_is;
            attrs = subst (λ (pl : Place). (x : ℕ) → x < length (attrs_of_sort g.sorts pl.sort) → slice_index_or whole (pl.start + x) no_tree ≡ slice_index_or (attributes_of d) x no_tree) (sym is)
                (subst (λ vs. (x : ℕ) → x < length (attrs_of_sort g.sorts place.sort) → slice_index_or vs (place.start + x) no_tree ≡ slice_index_or (attributes_of d) x no_tree) same found.symbol_there.stands.attrs);
            bound = ap (λ i. get_or (bounds_of g parts kids ++ bounds_of g parts extras) i no_bound) shift ∙ get_or-append-add (bounds_of g parts kids) (bounds_of g parts extras) j no_bound ∙ bounds_at extras j d found.symbol_there.is_there;
          },
        )

    -- each symbol is a decorated tree
    pub symbol_is : (s : ℕ) → s < length (symbols_of g.sorts q) → (d : Decorated) × IsSymbol s d
    symbol_is s less =
        let all = length-append kid_places extra_places in
        elim (cases_lt s (length kid_places)) [
          | inl before ↦ kid_is s before
          | inr behind ↦ extra_is s (s - length kid_places) (omega arith) (omega (arith, all))
        ]

    -- the values of a node are as many as its occurrences
    pub whole_count : length whole ≡ length (occurrences_of g.sorts q)
    whole_count =
        let counts = kid_counts g q.kids kids (own_end g.sorts q) right.has_kids kids_right in
        let extra = extra_counts g q.extras extras right.has_extras extras_right in
        let owns = right.owns in
        let own_map = length-map (attrs_of_sort g.sorts q.left) own_occurrence in
        let one = length-append own (kid_values kids ++ extra_values extras) in
        let two = length-append (kid_values kids) (extra_values extras) in
        let three = length-append (map own_occurrence (attrs_of_sort g.sorts q.left)) (flat_map (λ (kid : Kid). map symbol_occurrence (attrs_of g.sorts kid.kind)) q.kids ++ flat_map (extra_occurrences g.sorts) q.extras) in
        let four = length-append (flat_map (λ (kid : Kid). map symbol_occurrence (attrs_of g.sorts kid.kind)) q.kids) (flat_map (extra_occurrences g.sorts) q.extras) in
        omega (arith, counts.1, extra, owns, own_map, one, two, three, four)

    -- what the node holds at its occurrences are its values
    pub values_are : values_in g q held ≡ whole
    values_are =
        sym (fill_by_all (λ o. slice_index_or whole o no_tree) whole (length (occurrences_of g.sorts q)) no_tree whole_count (λ o less. refl))

    equation_holds : (es : List Equation) (i : ℕ) (e : Equation) → AllByRecursion (Holds whole (leaf_at kids)) es → slice_get es i ≡ Some e → Holds whole (leaf_at kids) e
    equation_holds [] i e h is = absurd (none-some e is)
    equation_holds (x ∷ xs) zero e h is = subst (Holds whole (leaf_at kids)) (same_Some x e is) h.0
    equation_holds (x ∷ xs) (suc i) e h is = equation_holds xs i e h.1 is

    -- an occurrence that is to be defined has the value of its equation
    eval_made : (o : ℕ) (e : Equation) → equation_of q o ≡ Some e → evaluated g q (bare_kids kids) held o ≡ Some (slice_index_or whole o no_tree)
    eval_made o e is =
        let there = found_there (λ (x : Equation). x.target == o) q.equations e is in
        let at = slice_of_member q.equations e there.0 in
        let holds = equation_holds q.equations at.0 e right.equations at.1 in
        let target : e.target ≡ o = eqb-true e.target o there.1 in
        ap (option_and_then (λ (e : Equation). value_of (values_in g q held) (leaf_in q.kids (bare_kids kids)) (expression e.expr))) is
        ∙ value_same (values_in g q held) whole (leaf_in q.kids (bare_kids kids)) (leaf_at kids) (leaf_same g.prods q.kids kids right.has_kids) (expression e.expr)
        (λ i c. ap (λ vs. slice_get vs i) values_are)
        ∙ holds.of_expression
        ∙ ap Some (sym (ap (λ t. slice_index_or whole t no_tree) (sym target) ∙ get_or_from_slice_get whole e.target holds.given no_tree holds.of_target))

    module _ (visit : Call → Option Result) (n : ℕ) (there : slice_get g.prods n ≡ Some q) (formed : IsTrue (is_well_formed g)) (sound : IsSound g.sorts parts q)
        (served : (d : Decorated) (s : ℕ) → Contains (symbols_in kids) d ⊎ Contains (symbols_in extras) d → IsTrue (is_left g.prods (production_of d) (k.Sort s)) → Serves g parts visit (face_of g parts d) s (bare d)) where
      visited : (s v : ℕ) → IsVisitThere g.sorts parts q s v → IsMade g.sorts parts q (step g parts visit q (bare_kids kids)) held (a.Visit s v)
      visited s v at =
          let found = symbol_is s at.symbol in
          let d = found.0 in
          let place = symbol_at g.sorts q s in
          let kind : IsTrue (is_of_kind g.prods (tree_at g q (bare_kids kids) held s) (k.Sort place.sort)) =
          ap (λ t. is_of_kind g.prods t (k.Sort place.sort)) found.1.tree ∙ bare_of_kind g.prods d (k.Sort place.sort) ∙ found.1.of_sort in
          let alike : AreAlike (length (attrs_of_sort g.sorts place.sort)) (face_of g parts d) (symbol_face g parts q held s) = record {
            attr = λ x less. sym (found.1.attrs x less);
            bound = λ u w. ap (λ f. f u w) (sym found.1.bound);
          } in
          let serves = serves_alike g parts place.sort (face_of g parts d) (symbol_face g parts q held s) alike visit (bare d) (served d place.sort found.1.among found.1.of_sort) in
          let serves_tree = subst (λ t. Serves g parts visit (symbol_face g parts q held s) place.sort t) (sym found.1.tree) serves in
          visit_made g parts visit q (bare_kids kids) held s v (held_proper whole (bounds_of g parts kids ++ bounds_of g parts extras)) kind (serves_tree v at.first at.last)

      -- All is made on a node that is right where its symbols serve their visits.
      pub node_made : AllMade g parts visit q (bare_kids kids) held
      node_made (a.Eval o) done =
          let e = equation_there g formed n q there o ((sound.complete.evaluates o).1 done) in
          record {
            given = record { height = 0; made = value (slice_index_or whole o no_tree) ∷ [] };
            is_given = ap (option_map (λ t. record { height = 0; made = value t ∷ [] })) (eval_made o e.0 e.1);
            made = refl;
          }
      node_made (a.Visit s v) done = visited s v ((sound.complete.visits s v).1 done)

      pub own_alike : AreAlike (length (attrs_of_sort g.sorts q.left)) (own_face g parts q held) (face_of g parts (at_node n own kids extras))
      own_alike = record {
        attr = λ x less.
            let l : x < length own = subst (λ w. x < w) (sym right.owns) less in
            let i : 0 + x ≡ x = omega arith in
            ap (λ j. get_or whole j no_tree) i ∙ get_or_append_left own (kid_values kids ++ extra_values extras) no_tree x l;
        bound = λ u w. ap (λ o. data_row (map held (option_map_or (λ q. items_between g.sorts parts q u w) o []))) (sym there);
      }

      -- and it serves its own
      pub right_serves : Serves g parts (one_visit g parts visit) (face_of g parts (at_node n own kids extras)) q.left (bare (at_node n own kids extras))
      right_serves =
          serves_alike g parts q.left (own_face g parts q held) (face_of g parts (at_node n own kids extras)) own_alike (one_visit g parts visit) (node n (bare_kids kids))
          (node_serves g parts visit q (bare_kids kids) held (held_proper whole (bounds_of g parts kids ++ bounds_of g parts extras)) n there sound (kids_of_kinds g.prods q.kids kids right.has_kids) node_made)

  -- each production's plan is sound
  abbrev pub AreSound : Type 0
  AreSound = (n : ℕ) (q : Production) → slice_get g.prods n ≡ Some q → IsSound g.sorts parts q

  module _ (formed : IsTrue (is_well_formed g)) (sound : AreSound) where
    -- An attribution serves the visits of its tree, with fuel for its height.
    pub serves : (fuel : ℕ) (d : Decorated) (s : ℕ) → IsRight g d → height d ≤ fuel → IsTrue (is_left g.prods (production_of d) (k.Sort s)) → Serves g parts (plain_visit g parts fuel) (face_of g parts d) s (bare d)
    unfolding plain_visit
    serves zero (at_node n own kids extras) s r low h = absurd (omega arith)
    serves (suc fuel) (at_node n own kids extras) s r low h =
        let q = r.0.production in
        let found = left_kind g.prods n (k.Sort s) h in
        let same : q ≡ found.0 = same_Some q found.0 (sym r.0.is_there ∙ found.1) in
        let is_left_sort : q.left ≡ s = sort_same q.left s (ap (λ (x : Production). k.Sort x.left) same ∙ found.2) in
        let kids_low = max_left (highest kids) (highest extras) in
        let extras_low = max_right (highest kids) (highest extras) in
        let served : (d : Decorated) (s : ℕ) → Contains (symbols_in kids) d ⊎ Contains (symbols_in extras) d → IsTrue (is_left g.prods (production_of d) (k.Sort s)) → Serves g parts (plain_visit g parts fuel) (face_of g parts d) s (bare d) =
        λ d s among h.
        elim among [
          | inl c ↦ let l = symbols_low kids d c in serves fuel d s (symbols_right g kids r.1 d c) (omega (arith, l, kids_low, low)) h
          | inr c ↦ let l = symbols_low extras d c in serves fuel d s (symbols_right g extras r.2 d c) (omega (arith, l, extras_low, low)) h
        ] in
        subst (λ t. Serves g parts (one_visit g parts (plain_visit g parts fuel)) (face_of g parts (at_node n own kids extras)) t (node n (bare_kids kids))) is_left_sort
        (right_serves q own kids extras r.0.is_right r.1 r.2 (plain_visit g parts fuel) n r.0.is_there formed (sound n q r.0.is_there) served)
