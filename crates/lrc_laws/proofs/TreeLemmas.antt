-- A tree that serves its visits with so much fuel has an attribution within that height.
use Rattle.std.proofs.Common.{◌≡◌, ℕ, zero, suc, ◌+◌, ◌<◌, ◌≤◌, Bool, true, false, not, ◌&&◌, ◌||◌, ◌==◌, IsTrue, cond, List, [], ◌∷◌, ◌++◌, map, length, Option, Some, None, slice_get, refl, sym, ap, ◌∙◌, subst, arith, length-append}
use Rattle.std.specs.Prelude.{flat_map, slice_index_or, nat_lt}
use Rattle.std.specs.Option.{option_map_or, option_and_then}
use Rattle.std.specs.List.{range_with_len, list_all}
use Rattle.std.proofs.lemmas.Bool.{false≢true, and_parts, eq-eqb, ltb-true}
use Rattle.std.proofs.lemmas.Option.{none-some, same_Some, slice_get-get_or, slice_get_within, get_or_from_slice_get}
use Rattle.std.proofs.lemmas.List.{length-map, get_or_append_left, get_or-append-add}
use Rattle.std.proofs.lemmas.List.FromFn.{length-map-range_with_len, get_or-map-range_with_len}
use Rattle.lrc_base.specs.declared.grammar.Kind.{Kind}
use Rattle.lrc_base.specs.declared.grammar.Kind.TheVariants as k
use Rattle.lrc_base.specs.declared.grammar.Kid.{Kid}
use Rattle.lrc_base.specs.declared.grammar.Extra.{Extra}
use Rattle.lrc_base.specs.declared.grammar.Equation.{Equation}
use Rattle.lrc_base.specs.declared.grammar.Sort.{Sort}
use Rattle.lrc_base.specs.declared.grammar.Production.{Production}
use Rattle.lrc_meaning.specs.Tree.{Tree, int, bool, name, node, Trees, is_sort, same_kind, is_left}
use Rattle.lrc_meaning.specs.Expression.{expression, value_of}
use Rattle.lrc_meaning.specs.Grammar.{Grammar, attrs_of_sort, attrs_of, own_occurrence, symbol_occurrence, extra_occurrences, occurrences_of, is_known, is_well_formed}
use Rattle.lrc_meaning.specs.Attribution.{Decorated, at_node, bare, attributes_of, production_of, kid_values, extra_values, occurrence_values, leaf_at, Holds, IsNodeRight, IsRight, height}
use Rattle.lrc_meaning.proofs.KindLemmas.{left_kind}
use Rattle.lrc_meaning.proofs.ListLemmas.{all_from_places}
use Rattle.lrc_order_meaning.specs.declared.Place.{Place}
use Rattle.lrc_order_meaning.specs.declared.Partition.{Partition}
use Rattle.lrc_order_meaning.specs.Needs.{symbol_of, kid_symbols, extra_symbols, symbols_of, left_place, own_end, kids_end, kid_count, extra_count}
use Rattle.lrc_plan_meaning.specs.declared.Action.TheVariants as a
use Rattle.lrc_plan_meaning.specs.declared.Bound.TheVariants as b
use Rattle.lrc_plan_meaning.specs.Items.{visits_of, symbol_at}
use Rattle.lrc_plan_meaning.specs.Sequences.{is_defined}
use Rattle.lrc_visit_meaning.specs.Values.{value_in, no_tree}
use Rattle.lrc_visit_meaning.specs.Visits.{Held, is_of_kind, are_of_kinds, is_call, leaf_in, symbol_trees, values_in, equation_of, evaluated, tree_at, one_visit, plain_visit}
use Rattle.lrc_order_meaning.proofs.MemberLemmas.{member_of_range}
use Rattle.lrc_plan.proofs.ListLemmas.{map_agree}
use Rattle.lrc_laws.proofs.ReadLemmas.{value_same}
use Rattle.lrc_laws.proofs.NodeLemmas.{Face, asked, Serves, ServesOne, symbol_face}
use Rattle.lrc_laws.proofs.PartLemmas.{node_of_kind, leaf_same}
use Rattle.lrc_laws.proofs.FormedLemmas.{production_right, one_equation, find_one, target_defined, defined_over}
use Rattle.lrc_laws.proofs.DecoratedLemmas.{AreSound, sort_same}
use Rattle.lrc_laws.proofs.AlikeLemmas.{AreVisited}
use Rattle.lrc_laws.proofs.BackLemmas.{plain_whole, node_holds, node_all_made, node_shows, served_visit}
use Rattle.lrc_laws.proofs.BuildLemmas.{AreSome, IsBuilt, BuiltKids, BuiltExtras, build_kids, build_extras, made_served, made_evaluated, range_split, range_shift}

known_sort : (sorts : List Sort) (kind : Kind) (s : ℕ) → kind ≡ k.Sort s → is_known sorts kind ≡ true → s < length sorts
known_sort sorts kind s e h = ltb-true s (length sorts) (ap (is_known sorts) (sym e) ∙ h)

each_of_append : (P : Place → Type 0) (xs ys : List Place) (j : ℕ) (place : Place) → slice_get (xs ++ ys) j ≡ Some place → ((i : ℕ) → slice_get xs i ≡ Some place → P place)
    → ((i : ℕ) → slice_get ys i ≡ Some place → P place) → P place
each_of_append P [] ys j place e one other = other j e
each_of_append P (x ∷ xs) ys zero place e one other = one 0 e
each_of_append P (x ∷ xs) ys (suc j) place e one other = each_of_append P xs ys j place e (λ i f. one (suc i) f) other

-- each symbol is of a sort that is there
module _ (sorts : List Sort) where
  of_known : (kind : Kind) (start : ℕ) (tree : Option ℕ) (j : ℕ) (place : Place) → is_known sorts kind ≡ true → slice_get (symbol_of kind start tree) j ≡ Some place → place.sort < length sorts
  of_known k.Int start tree j place h e = absurd (none-some place e)
  of_known k.Bool start tree j place h e = absurd (none-some place e)
  of_known k.Name start tree j place h e = absurd (none-some place e)
  of_known (k.Sort s) start tree zero place h e =
      let same : s ≡ place.sort = ap (λ (pl : Place). pl.sort) (same_Some _ place e) in
      subst (λ r. r < length sorts) same (ltb-true s (length sorts) h)
  of_known (k.Sort s) start tree (suc j) place h e = absurd (none-some place e)

  kid_known : (kids : List Kid) (start j : ℕ) (place : Place) → list_all (λ (kid : Kid). is_known sorts kid.kind) kids ≡ true → slice_get (kid_symbols sorts start kids) j ≡ Some place → place.sort < length sorts
  kid_known [] start j place h e = absurd (none-some place e)
  kid_known (kid ∷ kids) start j place h e =
      let both = and_parts (is_known sorts kid.kind) (list_all (λ (kid : Kid). is_known sorts kid.kind) kids) h in
      each_of_append (λ pl. pl.sort < length sorts) (symbol_of kid.kind start None) (kid_symbols sorts (start + length (attrs_of sorts kid.kind)) kids) j place e
      (λ i f. of_known kid.kind start None i place both.0 f) (λ i f. kid_known kids (start + length (attrs_of sorts kid.kind)) i place both.1 f)

  attached_known : (kind : Kind) (c : Bool) (start j : ℕ) (place : Place) → is_known sorts kind ≡ true → slice_get (cond c (symbol_of kind (start + 1) (Some start)) []) j ≡ Some place → place.sort < length sorts
  attached_known kind true start j place h e = of_known kind (start + 1) (Some start) j place h e
  attached_known kind false start j place h e = absurd (none-some place e)

  extra_known : (xs : List Extra) (start j : ℕ) (place : Place) → list_all (λ (x : Extra). is_known sorts x.kind && (not x.attached || is_sort x.kind)) xs ≡ true
      → slice_get (extra_symbols sorts start xs) j ≡ Some place → place.sort < length sorts
  extra_known [] start j place h e = absurd (none-some place e)
  extra_known (x ∷ xs) start j place h e =
      let both = and_parts (is_known sorts x.kind && (not x.attached || is_sort x.kind)) _ h in
      each_of_append (λ pl. pl.sort < length sorts) (cond x.attached (symbol_of x.kind (start + 1) (Some start)) []) (extra_symbols sorts (start + length (extra_occurrences sorts x)) xs) j place e
      (λ i f. attached_known x.kind x.attached start i place (and_parts (is_known sorts x.kind) (not x.attached || is_sort x.kind) both.0).0 f)
      (λ i f. extra_known xs (start + length (extra_occurrences sorts x)) i place both.1 f)

  -- a symbol among the children has no value, and one that is a nonterminal attribute has
  plain_of : (kind : Kind) (start j : ℕ) (place : Place) → slice_get (symbol_of kind start None) j ≡ Some place → place.tree ≡ None
  plain_of k.Int start j place e = absurd (none-some place e)
  plain_of k.Bool start j place e = absurd (none-some place e)
  plain_of k.Name start j place e = absurd (none-some place e)
  plain_of (k.Sort s) start zero place e = ap (λ (pl : Place). pl.tree) (sym (same_Some _ place e))
  plain_of (k.Sort s) start (suc j) place e = absurd (none-some place e)

  kid_plain_at : (kids : List Kid) (start j : ℕ) (place : Place) → slice_get (kid_symbols sorts start kids) j ≡ Some place → place.tree ≡ None
  kid_plain_at [] start j place e = absurd (none-some place e)
  kid_plain_at (kid ∷ kids) start j place e =
      each_of_append (λ pl. pl.tree ≡ None) (symbol_of kid.kind start None) (kid_symbols sorts (start + length (attrs_of sorts kid.kind)) kids) j place e
      (λ i f. plain_of kid.kind start i place f) (λ i f. kid_plain_at kids (start + length (attrs_of sorts kid.kind)) i place f)

  abbrev HasValue : Place → Type 0
  HasValue place = (x : ℕ) × (place.tree ≡ Some x)

  valued_of : (kind : Kind) (start at j : ℕ) (place : Place) → slice_get (symbol_of kind start (Some at)) j ≡ Some place → HasValue place
  valued_of k.Int start at j place e = absurd (none-some place e)
  valued_of k.Bool start at j place e = absurd (none-some place e)
  valued_of k.Name start at j place e = absurd (none-some place e)
  valued_of (k.Sort s) start at zero place e = (at, ap (λ (pl : Place). pl.tree) (sym (same_Some _ place e)))
  valued_of (k.Sort s) start at (suc j) place e = absurd (none-some place e)

  attached_valued : (kind : Kind) (c : Bool) (start j : ℕ) (place : Place) → slice_get (cond c (symbol_of kind (start + 1) (Some start)) []) j ≡ Some place → HasValue place
  attached_valued kind true start j place e = valued_of kind (start + 1) start j place e
  attached_valued kind false start j place e = absurd (none-some place e)

  extra_valued_at : (xs : List Extra) (start j : ℕ) (place : Place) → slice_get (extra_symbols sorts start xs) j ≡ Some place → HasValue place
  extra_valued_at [] start j place e = absurd (none-some place e)
  extra_valued_at (x ∷ xs) start j place e =
      each_of_append HasValue (cond x.attached (symbol_of x.kind (start + 1) (Some start)) []) (extra_symbols sorts (start + length (extra_occurrences sorts x)) xs) j place e
      (λ i f. attached_valued x.kind x.attached start i place f)
      (λ i f. extra_valued_at xs (start + length (extra_occurrences sorts x)) i place f)

-- a decorated tree of a tree, which shows what a face does
pub record TreeBuilt (g : Grammar) (fuel : ℕ) (f : Face) (s : ℕ) (t : Tree) : Type 0 where
  pub decorated : Decorated
  pub right : IsRight g decorated
  pub of_sort : IsTrue (is_left g.prods (production_of decorated) (k.Sort s))
  pub is_bare : bare decorated ≡ t
  pub low : height decorated ≤ fuel
  pub attrs : attributes_of decorated ≡ map f.attr (range_with_len 0 (length (attrs_of_sort g.sorts s)))

module _ (g : Grammar) (parts : List Partition) (formed : IsTrue (is_well_formed g)) where
  module _ (n : ℕ) (p : Production) (there : slice_get g.prods n ≡ Some p) where
    parts_right : IsTrue (nat_lt p.left (length g.sorts)) × (list_all (λ (kid : Kid). is_known g.sorts kid.kind) p.kids ≡ true)
        × (list_all (λ (x : Extra). is_known g.sorts x.kind && (not x.attached || is_sort x.kind)) p.extras ≡ true)
    parts_right =
        let pattern = and_parts _ _ (production_right g formed n p there) in
        let defined = and_parts _ _ pattern.0 in
        let equations = and_parts _ _ defined.0 in
        let names = and_parts _ _ equations.0 in
        let extras = and_parts _ _ names.0 in
        let kids = and_parts _ _ extras.0 in
        (kids.0, kids.1, extras.1)

    -- each symbol is of a sort that is there
    pub symbol_known : (j : ℕ) (place : Place) → slice_get (symbols_of g.sorts p) j ≡ Some place → place.sort < length g.sorts
    symbol_known j place e =
        each_of_append (λ pl. pl.sort < length g.sorts) (kid_symbols g.sorts (own_end g.sorts p) p.kids) (extra_symbols g.sorts (kids_end g.sorts p) p.extras) j place e
        (λ i f. kid_known g.sorts p.kids (own_end g.sorts p) i place parts_right.1 f)
        (λ i f. extra_known g.sorts p.extras (kids_end g.sorts p) i place parts_right.2 f)

  module _ (fuel n : ℕ) (p : Production) (there : slice_get g.prods n ≡ Some p) (kids : Trees) (kinds : IsTrue (are_of_kinds g.prods kids p.kids)) (held : Held)
      (made : (o : ℕ) → IsTrue (is_defined (occurrences_of g.sorts p) o) → evaluated g p kids held o ≡ Some (value_in (held (b.Value o))))
      (built : (s : ℕ) → s < length (symbols_of g.sorts p) → (d : Decorated) × IsBuilt g fuel held (symbol_at g.sorts p s) (tree_at g p kids held s) d) where
    abbrev at_occurrence : ℕ → Tree
    at_occurrence o = value_in (held (b.Value o))

    abbrev kid_places : List Place
    kid_places = kid_symbols g.sorts (own_end g.sorts p) p.kids

    abbrev extra_places : List Place
    extra_places = extra_symbols g.sorts (kids_end g.sorts p) p.extras

    built_kids : BuiltKids g fuel held p.kids kids (own_end g.sorts p)
    built_kids =
        build_kids g fuel held p.kids kids (own_end g.sorts p) kinds
        (λ j place e.
        let less = slice_get_within kid_places j place e in
        let all = length-append kid_places extra_places in
        let found = built j (omega (arith, less, all)) in
        let is : symbol_at g.sorts p j ≡ place =
        get_or_append_left kid_places extra_places (left_place p) j less ∙ get_or_from_slice_get kid_places j place (left_place p) e in
        let no_value : place.tree ≡ None = kid_plain_at g.sorts p.kids (own_end g.sorts p) j place e in
        let tree : tree_at g p kids held j ≡ slice_index_or (symbol_trees p.kids kids) j no_tree =
        ap (λ (pl : Place). option_map_or at_occurrence pl.tree (slice_index_or (symbol_trees p.kids kids) j no_tree)) is
        ∙ ap (λ o. option_map_or at_occurrence o (slice_index_or (symbol_trees p.kids kids) j no_tree)) no_value in
        (found.0, subst (λ t. IsBuilt g fuel held place t found.0) tree (subst (λ pl. IsBuilt g fuel held pl (tree_at g p kids held j) found.0) is found.1)))

    built_extras : BuiltExtras g fuel held p.extras (kids_end g.sorts p)
    built_extras =
        build_extras g fuel held p.extras (kids_end g.sorts p) (parts_right n p there).2
        (λ j place e.
        let less = slice_get_within extra_places j place e in
        let all = length-append kid_places extra_places in
        let found = built (length kid_places + j) (omega (arith, less, all)) in
        let is : symbol_at g.sorts p (length kid_places + j) ≡ place =
        get_or-append-add kid_places extra_places j (left_place p) ∙ get_or_from_slice_get extra_places j place (left_place p) e in
        let value = extra_valued_at g.sorts p.extras (kids_end g.sorts p) j place e in
        let d = slice_index_or (symbol_trees p.kids kids) (length kid_places + j) no_tree in
        let tree : tree_at g p kids held (length kid_places + j) ≡ option_map_or at_occurrence place.tree no_tree =
        ap (λ (pl : Place). option_map_or at_occurrence pl.tree d) is
        ∙ ap (λ o. option_map_or at_occurrence o d) value.1
        ∙ ap (λ o. option_map_or at_occurrence o no_tree) (sym value.1) in
        (found.0, subst (λ t. IsBuilt g fuel held place t found.0) tree (subst (λ pl. IsBuilt g fuel held pl (tree_at g p kids held (length kid_places + j)) found.0) is found.1)))

    own_values : List Tree
    own_values = map (λ x. at_occurrence (0 + x)) (range_with_len 0 (length (attrs_of_sort g.sorts p.left)))

    all_values : occurrence_values own_values built_kids.parts built_extras.parts ≡ values_in g p held
    unfolding own_values
    all_values =
        let n = length (attrs_of_sort g.sorts p.left) in
        let kc = kid_count g.sorts p.kids in
        let ec = extra_count g.sorts p.extras in
        let owns = length-map (attrs_of_sort g.sorts p.left) own_occurrence in
        let three = length-append (map own_occurrence (attrs_of_sort g.sorts p.left)) (flat_map (λ (kid : Kid). map symbol_occurrence (attrs_of g.sorts kid.kind)) p.kids ++ flat_map (extra_occurrences g.sorts) p.extras) in
        let four = length-append (flat_map (λ (kid : Kid). map symbol_occurrence (attrs_of g.sorts kid.kind)) p.kids) (flat_map (extra_occurrences g.sorts) p.extras) in
        let count : n + (kc + ec) ≡ length (occurrences_of g.sorts p) = omega (arith, owns, three, four) in
        let at : n ≡ 0 + n = omega arith in
        let further : n + kc ≡ 0 + n + kc = omega arith in
        ap (λ vs. vs ++ (kid_values built_kids.parts ++ extra_values built_extras.parts)) (range_shift at_occurrence 0 n)
        ∙ ap (λ vs. map at_occurrence (range_with_len 0 n) ++ vs)
        (ap (λ vs. vs ++ extra_values built_extras.parts) built_kids.values ∙ ap (λ vs. map at_occurrence (range_with_len n kc) ++ vs) built_extras.values
        ∙ sym (range_split at_occurrence n kc ec) ∙ ap (λ i. map at_occurrence (range_with_len i (kc + ec))) at)
        ∙ sym (range_split at_occurrence 0 n (kc + ec))
        ∙ ap (λ c. map at_occurrence (range_with_len 0 c)) count

    holds_each : (i : ℕ) (e : Equation) → slice_get p.equations i ≡ Some e → Holds (occurrence_values own_values built_kids.parts built_extras.parts) (leaf_at built_kids.parts) e
    holds_each i e is =
        let target = target_defined g formed n p there i e is in
        let x = defined_over (slice_get (occurrences_of g.sorts p) e.target) target in
        let within = slice_get_within (occurrences_of g.sorts p) e.target x.0 x.1 in
        let found : equation_of p e.target ≡ Some e =
        find_one (λ (y : Equation). y.target == e.target) p.equations i e (one_equation g formed n p there e.target target) is (eq-eqb e.target e.target refl) in
        let value = made e.target target in
        let leaves : (j : ℕ) → leaf_in p.kids kids j ≡ leaf_at built_kids.parts j =
        λ j. ap (λ ts. leaf_in p.kids ts j) (sym built_kids.is_bare) ∙ leaf_same g.prods p.kids built_kids.parts built_kids.agree j in
        let at : 0 + e.target ≡ e.target = omega arith in
        let slot : e.target < length (values_in g p held) = subst (λ c. e.target < c) (sym (length-map-range_with_len at_occurrence 0 (length (occurrences_of g.sorts p)))) within in
        record {
          given = at_occurrence e.target;
          of_target =
              ap (λ vs. slice_get vs e.target) all_values
              ∙ slice_get-get_or (values_in g p held) e.target no_tree slot
              ∙ ap Some (get_or-map-range_with_len at_occurrence 0 (length (occurrences_of g.sorts p)) e.target e.target no_tree within at);
          of_expression =
              sym (value_same (values_in g p held) (occurrence_values own_values built_kids.parts built_extras.parts) (leaf_in p.kids kids) (leaf_at built_kids.parts) leaves (expression e.expr)
              (λ j c. ap (λ vs. slice_get vs j) (sym all_values)))
              ∙ sym (ap (option_and_then (λ (y : Equation). value_of (values_in g p held) (leaf_in p.kids kids) (expression y.expr))) found)
              ∙ value;
        }

    -- the node with these parts is right
    node_built : IsNodeRight g p own_values built_kids.parts built_extras.parts
    unfolding own_values
    node_built = record {
      owns = length-map-range_with_len (λ x. at_occurrence (0 + x)) 0 (length (attrs_of_sort g.sorts p.left));
      has_kids = built_kids.agree;
      has_extras = built_extras.agree;
      equations = all_from_places (Holds (occurrence_values own_values built_kids.parts built_extras.parts) (leaf_at built_kids.parts)) p.equations holds_each;
    }

    pub tree_built : (f : Face) → ((x : ℕ) → x < length (attrs_of_sort g.sorts p.left) → at_occurrence (0 + x) ≡ f.attr x) → TreeBuilt g (suc fuel) f p.left (node n kids)
    unfolding own_values
    tree_built f shows =
        let kids_low = built_kids.low in
        let extras_low = built_extras.low in
        record {
          decorated = at_node n own_values built_kids.parts built_extras.parts;
          right = (record { production = p; is_there = there; is_right = node_built }, built_kids.right, built_extras.right);
          of_sort = ap (λ o. option_map_or (λ (q : Production). same_kind (k.Sort q.left) (k.Sort p.left)) o false) there ∙ eq-eqb p.left p.left refl;
          is_bare = ap (node n) built_kids.is_bare;
          low = omega (arith, kids_low, extras_low);
          attrs = map_agree (λ x. at_occurrence (0 + x)) f.attr (range_with_len 0 (length (attrs_of_sort g.sorts p.left)))
              (λ x c. let within = (member_of_range 0 (length (attrs_of_sort g.sorts p.left)) x c).1 in shows x (omega (arith, within)));
        }

  module _ (sound : AreSound g parts) (visited : AreVisited g parts) (some : AreSome g parts) where
    -- with fuel for one more, where it is so with this fuel
    node_step : (fuel : ℕ) → ((f : Face) (s : ℕ) (t : Tree) → s < length g.sorts → Serves g parts (plain_visit g parts fuel) f s t → IsTrue (is_of_kind g.prods t (k.Sort s)) → TreeBuilt g fuel f s t)
        → (f : Face) (n : ℕ) (p : Production) (kids : Trees) → slice_get g.prods n ≡ Some p → p.left < length g.sorts
        → Serves g parts (one_visit g parts (plain_visit g parts fuel)) f p.left (node n kids) → TreeBuilt g (suc fuel) f p.left (node n kids)
    node_step fuel below f n p kids there known serves =
        let visit = plain_visit g parts fuel in
        let whole = plain_whole g parts fuel in
        let plan = sound n p there in
        let held = node_holds g parts visit whole p n kids there plan f serves in
        let made = node_all_made g parts visit whole p n kids there plan f serves in
        let first : 1 ≤ visits_of parts p.left = some p.left known in
        let called = (served_visit g parts visit f p n kids 1 there (serves 1 (omega arith) first)).visited in
        let kinds = (and_parts (is_call g parts p (asked g parts f p.left (node n kids) 1)) (are_of_kinds g.prods kids p.kids) called).1 in
        tree_built fuel n p there kids kinds held
        (λ o defined. made_evaluated g parts visit whole p kids held o (made (a.Eval o) ((plan.complete.evaluates o).0 defined)))
        (λ s less.
        let place = symbol_at g.sorts p s in
        let there_place = slice_get-get_or (symbols_of g.sorts p) s (left_place p) less in
        let place_known = symbol_known n p there s place there_place in
        let has_first = some place.sort place_known in
        let one : (v : ℕ) → 1 ≤ v → v ≤ visits_of parts place.sort → IsTrue (is_of_kind g.prods (tree_at g p kids held s) (k.Sort place.sort)) × ServesOne g parts visit (symbol_face g parts p held s) place.sort (tree_at g p kids held s) v =
        λ v low high. made_served g parts visit whole p kids held s v (made (a.Visit s v) ((plan.complete.visits s v).0 (record { symbol = less; first = low; last = high }))) in
        let tree = below (symbol_face g parts p held s) place.sort (tree_at g p kids held s) place_known (λ v low high. (one v low high).1) (one 1 (omega arith) has_first).0 in
        (tree.decorated, record { right = tree.right; of_sort = tree.of_sort; is_bare = tree.is_bare; low = tree.low; attrs = tree.attrs }))
        f (node_shows g parts visit whole p n kids there plan f serves visited)

    -- A tree that serves its visits is that of an attribution that shows the same.
    pub build : (fuel : ℕ) (f : Face) (s : ℕ) (t : Tree) → s < length g.sorts → Serves g parts (plain_visit g parts fuel) f s t → IsTrue (is_of_kind g.prods t (k.Sort s)) → TreeBuilt g fuel f s t
    unfolding plain_visit
    build zero f s t known serves kind = let one = serves 1 (omega arith) (some s known) in absurd (none-some one.result one.is_result)
    build (suc fuel) f s (int i) known serves kind = absurd (false≢true kind)
    build (suc fuel) f s (bool x) known serves kind = absurd (false≢true kind)
    build (suc fuel) f s (name x) known serves kind = absurd (false≢true kind)
    build (suc fuel) f s (node n kids) known serves kind =
        let left = left_kind g.prods n (k.Sort s) (sym (node_of_kind g.prods n kids (k.Sort s)) ∙ kind) in
        let sort : left.0.left ≡ s = sort_same left.0.left s left.2 in
        subst (λ z. TreeBuilt g (suc fuel) f z (node n kids)) sort
        (node_step fuel (build fuel) f n left.0 kids left.1 (subst (λ z. z < length g.sorts) (sym sort) known)
        (subst (λ z. Serves g parts (one_visit g parts (plain_visit g parts fuel)) f z (node n kids)) (sym sort) serves))
