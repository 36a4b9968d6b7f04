-- A tree that serves its visits has an attribution with the values that it shows.
use Rattle.std.proofs.Common.{◌≡◌, ℕ, zero, suc, ◌+◌, ◌-◌, ◌<◌, ◌≤◌, Bool, true, false, not, ◌&&◌, ◌||◌, IsTrue, cond, List, [], ◌∷◌, ◌++◌, map, length, Option, Some, None, inl, inr, slice_get, refl, sym, ap, ◌∙◌, subst, arith, length-append}
use Rattle.std.specs.Prelude.{flat_map, slice_index_or}
use Rattle.std.specs.Option.{option_map_or}
use Rattle.std.specs.List.{range_with_len, list_all}
use Rattle.std.proofs.lemmas.Bool.{cases_Bool, false≢true, and_parts, and_from}
use Rattle.std.proofs.lemmas.List.{map-append, map-id, length-map}
use Rattle.lrc_base.specs.declared.grammar.Kind.{Kind}
use Rattle.lrc_base.specs.declared.grammar.Kind.TheVariants as k
use Rattle.lrc_base.specs.declared.grammar.Kid.{Kid}
use Rattle.lrc_base.specs.declared.grammar.Extra.{Extra}
use Rattle.lrc_base.specs.declared.grammar.Production.{Production}
use Rattle.lrc_meaning.specs.Tree.{Tree, int, bool, name, node, Trees, none, more, is_sort, is_left, fits}
use Rattle.lrc_meaning.specs.Grammar.{Grammar, attrs_of_sort, attrs_of, symbol_occurrence, extra_occurrences, is_known}
use Rattle.lrc_meaning.specs.Attribution.{Decorated, at_node, Parts, end, symbol, bare, bare_kids, attributes_of, production_of, kid_values, extra_values, occurrence_values, leaf_at, kids_agree, extras_agree, Holds, IsRight, AreRight, height, highest}
use Rattle.lrc_meaning.specs.Attribution as m
use Rattle.lrc_meaning.proofs.KindLemmas.{left_kind}
use Rattle.lrc_order_meaning.specs.declared.Place.{Place}
use Rattle.lrc_order_meaning.specs.declared.Partition.{Partition}
use Rattle.lrc_order_meaning.specs.Needs.{symbol_of, kid_symbols, extra_symbols, kid_count, extra_count}
use Rattle.lrc_plan_meaning.specs.declared.Action.TheVariants as a
use Rattle.lrc_plan_meaning.specs.declared.Bound.TheVariants as b
use Rattle.lrc_plan_meaning.specs.Items.{visits_of, attrs_of_visit, symbol_at}
use Rattle.lrc_visit_meaning.specs.Values.{value, binding, value_in, binding_in, no_tree, Call, Result}
use Rattle.lrc_visit_meaning.specs.Visits.{Held, Given, is_of_kind, are_of_kinds, symbol_trees, evaluated, tree_at, call_of, given_by, step}
use Rattle.std.proofs.lemmas.Simd.{map-map}
use Rattle.lrc_laws.proofs.FuelLemmas.{mapped, where_true}
use Rattle.lrc_laws.proofs.HeldLemmas.{IsMade}
use Rattle.lrc_laws.proofs.NodeLemmas.{ServesOne, symbol_face, call_asks}
use Rattle.lrc_laws.proofs.PartLemmas.{node_of_kind, leaf_kid, extra_plain, extra_attached}
use Rattle.lrc_laws.proofs.UniqueLemmas.{fronts_same}
use Rattle.lrc_laws.proofs.BackLemmas.{AreWhole}

-- each sort that is there has a visit
abbrev pub AreSome : Grammar → List Partition → Type 0
AreSome g parts = (s : ℕ) → s < length g.sorts → 1 ≤ visits_of parts s

sort_of : (kind : Kind) → is_sort kind ≡ true → (s : ℕ) × (kind ≡ k.Sort s)
sort_of k.Int h = absurd (false≢true h)
sort_of k.Bool h = absurd (false≢true h)
sort_of k.Name h = absurd (false≢true h)
sort_of (k.Sort s) h = (s, refl)

-- a leaf of a kind fits it
leaf_fits : (prods : List Production) (t : Tree) (kind : Kind) → is_sort kind ≡ false → IsTrue (is_of_kind prods t kind) → IsTrue (fits prods t kind)
leaf_fits prods (int i) kind s h = h
leaf_fits prods (bool x) kind s h = h
leaf_fits prods (name x) kind s h = h
leaf_fits prods (node n kids) kind s h =
    let q = left_kind prods n kind (sym (node_of_kind prods n kids kind) ∙ h) in
    absurd (false≢true (sym s ∙ ap is_sort (sym q.2)))

pub range_split : {X : Type 0} (f : ℕ → X) (a n m : ℕ) → map f (range_with_len a (n + m)) ≡ map f (range_with_len a n) ++ map f (range_with_len (a + n) m)
range_split f a zero m =
    let count : 0 + m ≡ m = omega arith in
    let at : a ≡ a + 0 = omega arith in
    ap (λ j. map f (range_with_len a j)) count ∙ ap (λ i. map f (range_with_len i m)) at
range_split f a (suc n) m =
    let count : suc n + m ≡ suc (n + m) = omega arith in
    let at : a + 1 + n ≡ a + suc n = omega arith in
    ap (λ j. map f (range_with_len a j)) count
    ∙ ap (λ xs. f a ∷ xs) (range_split f (a + 1) n m ∙ ap (λ i. map f (range_with_len (a + 1) n) ++ map f (range_with_len i m)) at)

shift_from : {X : Type 0} (f : ℕ → X) (a c n : ℕ) → map (λ x. f (a + x)) (range_with_len c n) ≡ map f (range_with_len (a + c) n)
shift_from f a c zero = refl
shift_from f a c (suc n) =
    let at : a + (c + 1) ≡ a + c + 1 = omega arith in
    ap (λ xs. f (a + c) ∷ xs) (shift_from f a (c + 1) n ∙ ap (λ i. map f (range_with_len i n)) at)

pub range_shift : {X : Type 0} (f : ℕ → X) (a n : ℕ) → map (λ x. f (a + x)) (range_with_len 0 n) ≡ map f (range_with_len a n)
range_shift f a n = let at : a + 0 ≡ a = omega arith in shift_from f a 0 n ∙ ap (λ i. map f (range_with_len i n)) at

module _ (g : Grammar) (parts : List Partition) (visit : Call → Option Result) (all_whole : AreWhole g parts visit) (p : Production) (kids : Trees) (held : Held) where
  -- a visit of a symbol that is made is served
  pub made_served : (s v : ℕ) → IsMade g.sorts parts p (step g parts visit p kids) held (a.Visit s v)
      → IsTrue (is_of_kind g.prods (tree_at g p kids held s) (k.Sort (symbol_at g.sorts p s).sort))
      × ServesOne g parts visit (symbol_face g parts p held s) (symbol_at g.sorts p s).sort (tree_at g p kids held s) v
  made_served s v h =
      let place = symbol_at g.sorts p s in
      let inside = where_true (is_of_kind g.prods (tree_at g p kids held s) (k.Sort place.sort)) _ h.given h.is_given in
      let found = mapped given_by (visit (call_of g parts p kids held s v)) h.given inside.1 in
      let r = found.0 in
      let outs = attrs_of_visit g.sorts parts false place.sort v in
      let later = range_with_len (v + 1) (visits_of parts place.sort - v) in
      let values = map (λ x. b.Value (place.start + x)) outs in
      let bounds = map (λ w. b.Kid s v w) later in
      let whole = all_whole (call_of g parts p kids held s v) place.sort r inside.0 found.1 in
      let lists : map value r.synthesised ++ map binding r.bindings ≡ map held values ++ map held bounds =
      ap (λ (q : Given). q.made) found.2 ∙ h.made ∙ map-append held values bounds in
      let count : length (map value r.synthesised) ≡ length (map held values) =
      length-map r.synthesised value ∙ whole.values ∙ sym (length-map outs (λ x. b.Value (place.start + x))) ∙ sym (length-map values held) in
      let split = fronts_same (map value r.synthesised) (map held values) (map binding r.bindings) (map held bounds) count lists in (
        inside.0,
        record {
          result = r;
          is_result = ap visit (sym (call_asks g parts visit p kids held s v)) ∙ found.1;
          answers = record {
            synthesised =
                sym (map-map value_in value r.synthesised ∙ map-id r.synthesised) ∙ ap (map value_in) split.0
                ∙ ap (map value_in) (map-map held (λ x. b.Value (place.start + x)) outs)
                ∙ map-map value_in (λ x. held (b.Value (place.start + x))) outs;
            bindings =
                sym (map-map binding_in binding r.bindings ∙ map-id r.bindings) ∙ ap (map binding_in) split.1
                ∙ ap (map binding_in) (map-map held (λ w. b.Kid s v w) later)
                ∙ map-map binding_in (λ w. held (b.Kid s v w)) later;
          };
        },
      )

  -- an occurrence that is made has the value of its equation
  pub made_evaluated : (o : ℕ) → IsMade g.sorts parts p (step g parts visit p kids) held (a.Eval o) → evaluated g p kids held o ≡ Some (value_in (held (b.Value o)))
  made_evaluated o h =
      let found = mapped (λ t. record { height = 0; made = value t ∷ [] }) (evaluated g p kids held o) h.given h.is_given in
      let lists : value found.0 ∷ [] ≡ held (b.Value o) ∷ [] = ap (λ (q : Given). q.made) found.2 ∙ h.made in
      let same : value found.0 ≡ held (b.Value o) = cc in
      found.1 ∙ ap Some (ap value_in same)

module _ (g : Grammar) (fuel : ℕ) (held : Held) where
  abbrev at_occurrence : ℕ → Tree
  at_occurrence o = value_in (held (b.Value o))

  -- a decorated tree for a symbol, with the values that are held at its place
  pub record IsBuilt (place : Place) (t : Tree) (d : Decorated) : Type 0 where
    pub right : IsRight g d
    pub of_sort : IsTrue (is_left g.prods (production_of d) (k.Sort place.sort))
    pub is_bare : bare d ≡ t
    pub low : height d ≤ fuel
    pub attrs : attributes_of d ≡ map (λ x. at_occurrence (place.start + x)) (range_with_len 0 (length (attrs_of_sort g.sorts place.sort)))

  pub record BuiltKids (kids : List Kid) (ts : Trees) (start : ℕ) : Type 0 where
    pub parts : Parts
    pub agree : IsTrue (kids_agree g.prods kids parts)
    pub right : AreRight g parts
    pub low : highest parts ≤ fuel
    pub is_bare : bare_kids parts ≡ ts
    pub values : kid_values parts ≡ map at_occurrence (range_with_len start (kid_count g.sorts kids))

  pub record BuiltExtras (xs : List Extra) (start : ℕ) : Type 0 where
    pub parts : Parts
    pub agree : IsTrue (extras_agree g.prods xs parts)
    pub right : AreRight g parts
    pub low : highest parts ≤ fuel
    pub values : extra_values parts ≡ map at_occurrence (range_with_len start (extra_count g.sorts xs))

  abbrev KidsBuilt : List Kid → Trees → ℕ → Type 0
  KidsBuilt kids ts start = (j : ℕ) (place : Place) → slice_get (kid_symbols g.sorts start kids) j ≡ Some place → (d : Decorated) × IsBuilt place (slice_index_or (symbol_trees kids ts) j no_tree) d

  abbrev ExtrasBuilt : List Extra → ℕ → Type 0
  ExtrasBuilt xs start = (j : ℕ) (place : Place) → slice_get (extra_symbols g.sorts start xs) j ≡ Some place → (d : Decorated) × IsBuilt place (option_map_or at_occurrence place.tree no_tree) d

  kid_count_on : (kid : Kid) (kids : List Kid) → kid_count g.sorts (kid ∷ kids) ≡ length (attrs_of g.sorts kid.kind) + kid_count g.sorts kids
  kid_count_on kid kids =
      let all = length-append (map symbol_occurrence (attrs_of g.sorts kid.kind)) (flat_map (λ (kid : Kid). map symbol_occurrence (attrs_of g.sorts kid.kind)) kids) in
      let one = length-map (attrs_of g.sorts kid.kind) symbol_occurrence in
      omega (arith, all, one)

  pub build_kids : (kids : List Kid) (ts : Trees) (start : ℕ) → IsTrue (are_of_kinds g.prods ts kids) → KidsBuilt kids ts start → BuiltKids kids ts start
  build_kids [] none start h built = record { parts = end; agree = refl; right = tt; low = omega arith; is_bare = refl; values = refl }
  build_kids [] (more t ts) start h built = absurd (false≢true h)
  build_kids (kid ∷ kids) none start h built = absurd (false≢true h)
  build_kids (kid ∷ kids) (more t ts) start h built =
      let both = and_parts (is_of_kind g.prods t kid.kind) (are_of_kinds g.prods ts kids) h in
      let on = start + length (attrs_of g.sorts kid.kind) in
      let counts = kid_count_on kid kids in
      elim (cases_Bool (is_sort kid.kind)) [
        | inr is_leaf ↦
            let leaf = leaf_kid g kid.kind start is_leaf in
            let trees : symbol_trees (kid ∷ kids) (more t ts) ≡ symbol_trees kids ts = ap (λ c. cond c (t ∷ symbol_trees kids ts) (symbol_trees kids ts)) is_leaf in
            let rest = build_kids kids ts on both.1
            (λ j place e.
            let found = built j place (ap (λ ps. slice_get (ps ++ kid_symbols g.sorts on kids) j) leaf.0 ∙ e) in
            (found.0, subst (λ us. IsBuilt place (slice_index_or us j no_tree) found.0) trees found.1)) in
            let at : on ≡ start = omega (arith, leaf.1) in
            let count : kid_count g.sorts kids ≡ kid_count g.sorts (kid ∷ kids) = omega (arith, counts, leaf.1) in
            record {
              parts = m.value t rest.parts;
              agree = and_from (not (is_sort kid.kind) && fits g.prods t kid.kind) (kids_agree g.prods kids rest.parts)
                  (and_from (not (is_sort kid.kind)) (fits g.prods t kid.kind) (ap not is_leaf) (leaf_fits g.prods t kid.kind is_leaf both.0)) rest.agree;
              right = rest.right;
              low = rest.low;
              is_bare = ap (more t) rest.is_bare;
              values = rest.values ∙ ap (λ i. map at_occurrence (range_with_len i (kid_count g.sorts kids))) at ∙ ap (λ n. map at_occurrence (range_with_len start n)) count;
            }
        | inl is_symbol ↦
            let s = sort_of kid.kind is_symbol in
            let first : Place = record { sort = s.0; start = start; tree = None } in
            let symbols : symbol_of kid.kind start None ≡ first ∷ [] = ap (λ kd. symbol_of kd start None) s.1 in
            let trees : symbol_trees (kid ∷ kids) (more t ts) ≡ t ∷ symbol_trees kids ts = ap (λ c. cond c (t ∷ symbol_trees kids ts) (symbol_trees kids ts)) is_symbol in
            let here = built 0 first (ap (λ ps. slice_get (ps ++ kid_symbols g.sorts on kids) 0) symbols) in
            let d = here.0 in
            let is = subst (λ us. IsBuilt first (slice_index_or us 0 no_tree) d) trees here.1 in
            let rest = build_kids kids ts on both.1
            (λ j place e.
            let found = built (suc j) place (ap (λ ps. slice_get (ps ++ kid_symbols g.sorts on kids) (suc j)) symbols ∙ e) in
            (found.0, subst (λ us. IsBuilt place (slice_index_or us (suc j) no_tree) found.0) trees found.1)) in
            let low_here = is.low in
            let low_rest = rest.low in
            let n = length (attrs_of g.sorts kid.kind) in
            let own : attributes_of d ≡ map at_occurrence (range_with_len start n) =
            is.attrs ∙ range_shift at_occurrence start (length (attrs_of_sort g.sorts s.0)) ∙ ap (λ kd. map at_occurrence (range_with_len start (length (attrs_of g.sorts kd)))) (sym s.1) in
            record {
              parts = symbol d rest.parts;
              agree = and_from (is_left g.prods (production_of d) kid.kind) (kids_agree g.prods kids rest.parts)
                  (subst (λ kd. IsTrue (is_left g.prods (production_of d) kd)) (sym s.1) is.of_sort) rest.agree;
              right = (is.right, rest.right);
              low = omega (arith, low_here, low_rest);
              is_bare = ap (λ u. more u (bare_kids rest.parts)) is.is_bare ∙ ap (more t) rest.is_bare;
              values =
                  ap (λ vs. vs ++ kid_values rest.parts) own ∙ ap (λ vs. map at_occurrence (range_with_len start n) ++ vs) rest.values
                  ∙ sym (range_split at_occurrence start n (kid_count g.sorts kids))
                  ∙ ap (λ c. map at_occurrence (range_with_len start c)) (sym counts);
            }
      ]

  extra_count_on : (x : Extra) (xs : List Extra) → extra_count g.sorts (x ∷ xs) ≡ length (extra_occurrences g.sorts x) + extra_count g.sorts xs
  extra_count_on x xs = length-append (extra_occurrences g.sorts x) (flat_map (extra_occurrences g.sorts) xs)

  or_left : (c d : Bool) → (not c || d) ≡ true → c ≡ true → d ≡ true
  or_left true d h e = h
  or_left false d h e = absurd (false≢true e)

  pub build_extras : (xs : List Extra) (start : ℕ) → list_all (λ (x : Extra). is_known g.sorts x.kind && (not x.attached || is_sort x.kind)) xs ≡ true → ExtrasBuilt xs start → BuiltExtras xs start
  build_extras [] start h built = record { parts = end; agree = refl; right = tt; low = omega arith; values = refl }
  build_extras (x ∷ xs) start h built =
      let both = and_parts (is_known g.sorts x.kind && (not x.attached || is_sort x.kind)) _ h in
      let kinds = and_parts (is_known g.sorts x.kind) (not x.attached || is_sort x.kind) both.0 in
      let on = start + length (extra_occurrences g.sorts x) in
      let counts = extra_count_on x xs in
      elim (cases_Bool x.attached) [
        | inr plain ↦
            let one = extra_plain g x plain in
            let symbols : cond x.attached (symbol_of x.kind (start + 1) (Some start)) [] ≡ [] = ap (λ c. cond c (symbol_of x.kind (start + 1) (Some start)) []) plain in
            let rest = build_extras xs on both.1 (λ j place e. built j place (ap (λ ps. slice_get (ps ++ extra_symbols g.sorts on xs) j) symbols ∙ e)) in
            let at : on ≡ start + 1 = omega (arith, one) in
            let count : extra_count g.sorts (x ∷ xs) ≡ suc (extra_count g.sorts xs) = omega (arith, counts, one) in
            record {
              parts = m.value (at_occurrence start) rest.parts;
              agree = and_from (not x.attached) (extras_agree g.prods xs rest.parts) (ap not plain) rest.agree;
              right = rest.right;
              low = rest.low;
              values =
                  ap (λ vs. at_occurrence start ∷ vs) (rest.values ∙ ap (λ i. map at_occurrence (range_with_len i (extra_count g.sorts xs))) at)
                  ∙ ap (λ c. map at_occurrence (range_with_len start c)) (sym count);
            }
        | inl attached ↦
            let s = sort_of x.kind (or_left x.attached (is_sort x.kind) kinds.1 attached) in
            let first : Place = record { sort = s.0; start = start + 1; tree = Some start } in
            let symbols : cond x.attached (symbol_of x.kind (start + 1) (Some start)) [] ≡ first ∷ [] =
            ap (λ c. cond c (symbol_of x.kind (start + 1) (Some start)) []) attached ∙ ap (λ kd. symbol_of kd (start + 1) (Some start)) s.1 in
            let here = built 0 first (ap (λ ps. slice_get (ps ++ extra_symbols g.sorts on xs) 0) symbols) in
            let d = here.0 in
            let is = here.1 in
            let rest = build_extras xs on both.1 (λ j place e. built (suc j) place (ap (λ ps. slice_get (ps ++ extra_symbols g.sorts on xs) (suc j)) symbols ∙ e)) in
            let low_here = is.low in
            let low_rest = rest.low in
            let n = length (attrs_of g.sorts x.kind) in
            let all = extra_attached g x attached in
            let own : attributes_of d ≡ map at_occurrence (range_with_len (start + 1) n) =
            is.attrs ∙ range_shift at_occurrence (start + 1) (length (attrs_of_sort g.sorts s.0)) ∙ ap (λ kd. map at_occurrence (range_with_len (start + 1) (length (attrs_of g.sorts kd)))) (sym s.1) in
            let at : on ≡ start + 1 + n = omega (arith, all) in
            let count : extra_count g.sorts (x ∷ xs) ≡ suc (n + extra_count g.sorts xs) = omega (arith, counts, all) in
            record {
              parts = symbol d rest.parts;
              agree = and_from (x.attached && is_left g.prods (production_of d) x.kind) (extras_agree g.prods xs rest.parts)
                  (and_from x.attached (is_left g.prods (production_of d) x.kind) attached (subst (λ kd. IsTrue (is_left g.prods (production_of d) kd)) (sym s.1) is.of_sort)) rest.agree;
              right = (is.right, rest.right);
              low = omega (arith, low_here, low_rest);
              values =
                  ap (λ t. t ∷ (attributes_of d ++ extra_values rest.parts)) is.is_bare
                  ∙ ap (λ vs. at_occurrence start ∷ vs)
                  (ap (λ vs. vs ++ extra_values rest.parts) own
                  ∙ ap (λ vs. map at_occurrence (range_with_len (start + 1) n) ++ vs) (rest.values ∙ ap (λ i. map at_occurrence (range_with_len i (extra_count g.sorts xs))) at)
                  ∙ sym (range_split at_occurrence (start + 1) n (extra_count g.sorts xs)))
                  ∙ ap (λ c. map at_occurrence (range_with_len start c)) (sym count);
            }
      ]
