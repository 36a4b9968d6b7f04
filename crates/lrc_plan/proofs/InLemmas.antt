-- Items of a well-formed production are numbered as its shape says.
use Rattle.std.proofs.Common.{◌≡◌, ℕ, suc, ◌+◌, ◌-◌, ◌<◌, ◌≤◌, Bool, true, false, ◌&&◌, ◌==◌, IsTrue, List, [], ◌∷◌, ◌++◌, length, map, All, Contains, Option, Some, None, refl, sym, subst, arith}
use Rattle.std.specs.Prelude.{filter, flat_map, slice_index}
use Rattle.std.specs.Option.{option_map_or}
use Rattle.std.specs.List.{range_with_len}
use Rattle.std.proofs.lemmas.List.{get_or-map, length-map}
use Rattle.std.proofs.lemmas.List.FromFn.{get_or-range_with_len, length-range_with_len}
use Rattle.std.proofs.lemmas.List.Elements.{All-nil, All-cons, All-append, All-map, All-filter, All-weaker, All-contains}
use Rattle.lrc_base.specs.declared.grammar.Sort.{Sort}
use Rattle.lrc_base.specs.declared.grammar.Production.{Production}
use Rattle.lrc_meaning.specs.Grammar.{Grammar, attrs_of_sort, occurrences_of, is_production_right, is_well_formed}
use Rattle.lrc_order_meaning.specs.declared.Need.{Need}
use Rattle.lrc_order_meaning.specs.declared.Partition.{Partition}
use Rattle.lrc_order_meaning.specs.declared.Place.{Place}
use Rattle.lrc_order_meaning.specs.Needs.{need, symbols_of, left_place, places_of, needs_of, equation_needs, tree_needs}
use Rattle.lrc_ordered.proofs.PlaceLemmas.{IsWithin, places_within}
use Rattle.lrc_ordered.specs.Setup.{IsNeedBelow}
use Rattle.lrc_ordered.proofs.RangeLemmas.{all_flat, production_right}
use Rattle.lrc_plan_meaning.specs.declared.Action.{Action}
use Rattle.lrc_plan_meaning.specs.declared.Action.TheVariants as a
use Rattle.lrc_plan_meaning.specs.declared.Bound.{Bound}
use Rattle.lrc_plan_meaning.specs.declared.Bound.TheVariants as b
use Rattle.lrc_plan_meaning.specs.Items.{visits_of, visit_of, comes_before, is_of, values_of_visit, tree_of, taken, given_back, ordered_at, extended_of, firsts_of, symbol_at, needs, makes}
use Rattle.lrc_plan_meaning.specs.Sequences.{is_defined, visits_at, actions_of}
use Rattle.lrc_plan.specs.Sites.{IsBehindTree}
use Rattle.lrc_plan.specs.Gaining.{shape_of, IsIn}
use Rattle.lrc_plan.specs.ItemSets.{Flags, HasRoom, HasRoomFor}
use Rattle.lrc_plan.proofs.PairLemmas.{all_front}

pub in_range : (P : ℕ → Type 0) (a n : ℕ) → ((x : ℕ) → a ≤ x → x < a + n → P x) → All P (range_with_len a n)
in_range P a n f k d less =
    let size = length-range_with_len a n in
    subst P (sym (get_or-range_with_len a n k d (omega arith))) (f (a + k) (omega arith) (omega arith))

module _ (sorts : List Sort) (parts : List Partition) where
  pub values_in : (P : Bound → Type 0) (inherited : Bool) (s start v : ℕ) → ((x : ℕ) → x < length (attrs_of_sort sorts s) → P (b.Value (start + x)))
      → All P (values_of_visit sorts parts inherited s start v)
  values_in P inherited s start v f =
      let count = length (attrs_of_sort sorts s) in
      All-map P (λ x. b.Value (start + x)) (filter (λ x. is_of (attrs_of_sort sorts s) inherited x && (visit_of parts s x == v)) (range_with_len 0 count))
      (All-filter (λ x. is_of (attrs_of_sort sorts s) inherited x && (visit_of parts s x == v)) (λ x. P (b.Value (start + x))) (range_with_len 0 count)
      (in_range (λ x. P (b.Value (start + x))) 0 count (λ x low less. f x (omega arith))))

-- a set with room for so many has room for each item
pub has_room : (f : Flags) (sorts : List Sort) (parts : List Partition) (p : Production) → HasRoomFor f (shape_of sorts parts p).occurrences (shape_of sorts parts p).visits
    → (x : Bound) → IsIn (shape_of sorts parts p) x → HasRoom f x
has_room f sorts parts p room (b.Value o) is = room.values o is
has_room f sorts parts p room (b.Kid s i j) is = room.kids s i j is.0 is.1 is.2

module _ (sorts : List Sort) (parts : List Partition) (p : Production) where
  abbrev total : ℕ
  total = length (occurrences_of sorts p)

  abbrev In : Bound → Type 0
  In = IsIn (shape_of sorts parts p)

  -- what an action needs and makes
  abbrev pub IsActionIn : Action → Type 0
  IsActionIn x = All In (needs sorts parts p x) × All In (makes sorts parts p x)

  visits_at_symbol : (s : ℕ) → s < length (symbols_of sorts p) → slice_index (shape_of sorts parts p).visits s ≡ visits_of parts (symbol_at sorts p s).sort
  visits_at_symbol s there = get_or-map (λ (place : Place). visits_of parts place.sort) (symbols_of sorts p) s (left_place p) 0 there

  kid_in : (s i j : ℕ) → s < length (symbols_of sorts p) → i ≤ visits_of parts (symbol_at sorts p s).sort → j ≤ visits_of parts (symbol_at sorts p s).sort → In (b.Kid s i j)
  kid_in s i j there i_le j_le =
      let count = length-map (symbols_of sorts p) (λ (place : Place). visits_of parts place.sort) in
      let n = visits_at_symbol s there in
      (omega arith, omega arith, omega arith)

  pub left_values_in : (inherited : Bool) (v : ℕ) → All In (values_of_visit sorts parts inherited p.left 0 v)
  left_values_in inherited v =
      let within = places_within sorts p 0 (left_place p) (omega arith) in
      values_in sorts parts In inherited p.left 0 v (λ x less. omega arith)

  -- where a nonterminal attribute's value stands before its attributes
  module _ (behind : All IsBehindTree (places_of sorts p)) where
    place_at : (s : ℕ) → s < length (symbols_of sorts p) → IsWithin sorts total (symbol_at sorts p s) × IsBehindTree (symbol_at sorts p s)
    place_at s there = (places_within sorts p (suc s) (left_place p) (omega arith), behind (suc s) (left_place p) (omega arith))

    tree_in : (place : Place) (tree : Option ℕ) → place.tree ≡ tree → IsBehindTree place → place.start ≤ total → All In (option_map_or (λ t. b.Value t ∷ []) tree [])
    tree_in place None e placed le = All-nil In
    tree_in place (Some t) e placed le =
        let before = placed t e in
        All-cons In (b.Value t) [] (omega arith) (All-nil In)

    taken_in : (s v : ℕ) → s < length (symbols_of sorts p) → v ≤ visits_of parts (symbol_at sorts p s).sort → All In (taken sorts parts (symbol_at sorts p s) s v)
    taken_in s v there le =
        let place = symbol_at sorts p s in
        let at = place_at s there in
        let within = at.0 in
        All-append In (tree_of place) (values_of_visit sorts parts true place.sort place.start v ++ map (λ u. b.Kid s u v) (range_with_len 1 (v - 1)))
        (tree_in place place.tree refl at.1 (omega arith))
        (All-append In (values_of_visit sorts parts true place.sort place.start v) (map (λ u. b.Kid s u v) (range_with_len 1 (v - 1)))
        (values_in sorts parts In true place.sort place.start v (λ x less. omega arith))
        (All-map In (λ u. b.Kid s u v) (range_with_len 1 (v - 1)) (in_range (λ u. In (b.Kid s u v)) 1 (v - 1) (λ u low less. kid_in s u v there (omega arith) le))))

    given_in : (s v : ℕ) → s < length (symbols_of sorts p) → v ≤ visits_of parts (symbol_at sorts p s).sort → All In (given_back sorts parts (symbol_at sorts p s) s v)
    given_in s v there le =
        let place = symbol_at sorts p s in
        let at = place_at s there in
        let within = at.0 in
        let n = visits_of parts place.sort in
        All-append In (values_of_visit sorts parts false place.sort place.start v) (map (λ w. b.Kid s v w) (range_with_len (v + 1) (n - v)))
        (values_in sorts parts In false place.sort place.start v (λ x less. omega arith))
        (All-map In (λ w. b.Kid s v w) (range_with_len (v + 1) (n - v)) (in_range (λ w. In (b.Kid s v w)) (v + 1) (n - v) (λ w low less. kid_in s v w there le (omega arith))))

    -- and needs are of occurrences
    module _ (below : All (IsNeedBelow (length (occurrences_of sorts p))) (needs_of sorts p)) where
      reads_in : (o : ℕ) → All In (firsts_of (flat_map equation_needs p.equations) o)
      reads_in o =
          let front = all_front (IsNeedBelow total) (flat_map equation_needs p.equations) (flat_map (tree_needs sorts) (places_of sorts p)) below in
          All-map In (λ (n : Need). b.Value n.first) (filter (λ (n : Need). n.then == o) (flat_map equation_needs p.equations))
          (All-filter (λ (n : Need). n.then == o) (λ (n : Need). In (b.Value n.first)) (flat_map equation_needs p.equations)
          (All-weaker (IsNeedBelow total) (λ (n : Need). In (b.Value n.first)) (λ n h. h.0) (flat_map equation_needs p.equations) front))

      pub actions_in : All IsActionIn (actions_of sorts parts p)
      actions_in =
          All-append IsActionIn (map a.Eval (filter (is_defined (occurrences_of sorts p)) (range_with_len 0 total))) (flat_map (visits_at sorts parts p) (range_with_len 0 (length (symbols_of sorts p))))
          (All-map IsActionIn a.Eval (filter (is_defined (occurrences_of sorts p)) (range_with_len 0 total))
          (All-filter (is_defined (occurrences_of sorts p)) (λ o. IsActionIn (a.Eval o)) (range_with_len 0 total)
          (in_range (λ o. IsActionIn (a.Eval o)) 0 total (λ o low less. (reads_in o, All-cons In (b.Value o) [] (omega arith) (All-nil In))))))
          (all_flat (visits_at sorts parts p) IsActionIn (range_with_len 0 (length (symbols_of sorts p)))
          (in_range (λ s. All IsActionIn (visits_at sorts parts p s)) 0 (length (symbols_of sorts p))
          (λ s low less.
          let n = visits_of parts (symbol_at sorts p s).sort in
          let there : s < length (symbols_of sorts p) = omega arith in
          All-map IsActionIn (a.Visit s) (range_with_len 1 n)
          (in_range (λ v. IsActionIn (a.Visit s v)) 1 n (λ v one le. (taken_in s v there (omega arith), given_in s v there (omega arith)))))))

  -- extended dependencies are of occurrences
  ordered_in : (place : Place) → IsWithin sorts total place → All (IsNeedBelow total) (ordered_at sorts parts place)
  ordered_in place within =
      let count = length (attrs_of_sort sorts place.sort) in
      all_flat (λ x. map (λ y. need (place.start + x) (place.start + y)) (filter (comes_before parts place.sort x) (range_with_len 0 count))) (IsNeedBelow total) (range_with_len 0 count)
      (in_range (λ x. All (IsNeedBelow total) (map (λ y. need (place.start + x) (place.start + y)) (filter (comes_before parts place.sort x) (range_with_len 0 count)))) 0 count
      (λ x low less.
      All-map (IsNeedBelow total) (λ y. need (place.start + x) (place.start + y)) (filter (comes_before parts place.sort x) (range_with_len 0 count))
      (All-filter (comes_before parts place.sort x) (λ y. IsNeedBelow total (need (place.start + x) (place.start + y))) (range_with_len 0 count)
      (in_range (λ y. IsNeedBelow total (need (place.start + x) (place.start + y))) 0 count (λ y low2 less2. (omega arith, omega arith))))))

  -- where needs are of occurrences
  module _ (below : All (IsNeedBelow (length (occurrences_of sorts p))) (needs_of sorts p)) where
    pub extended_within : All (IsNeedBelow total) (extended_of sorts parts p)
    extended_within =
        All-append (IsNeedBelow total) (needs_of sorts p) (flat_map (ordered_at sorts parts) (places_of sorts p)) below
        (all_flat (ordered_at sorts parts) (IsNeedBelow total) (places_of sorts p)
        (All-weaker (IsWithin sorts total) (λ place. All (IsNeedBelow total) (ordered_at sorts parts place)) ordered_in (places_of sorts p) (places_within sorts p)))

    pub extended_in : All (λ (n : Need). n.then < total) (extended_of sorts parts p)
    extended_in = All-weaker (IsNeedBelow total) (λ (n : Need). n.then < total) (λ n h. h.1) (extended_of sorts parts p) extended_within

pub production_is_right : (g : Grammar) → IsTrue (is_well_formed g) → (p : Production) → Contains g.prods p → is_production_right g.sorts g.prods p ≡ true
production_is_right g well p there = All-contains (λ q. is_production_right g.sorts g.prods q ≡ true) g.prods p (production_right g well) there
