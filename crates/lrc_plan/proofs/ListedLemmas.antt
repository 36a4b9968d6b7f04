-- What an action needs is among the items of its production, so that its visits can be made one after another.
use Rattle.std.proofs.Common.{◌≡◌, ℕ, suc, ◌+◌, ◌-◌, ◌<◌, ◌≤◌, true, ◌==◌, IsTrue, List, [], ◌∷◌, ◌++◌, length, map, All, Contains, Option, Some, None, refl, arith}
use Rattle.std.specs.Prelude.{filter, flat_map}
use Rattle.std.specs.Option.{option_map_or}
use Rattle.std.specs.List.{range_with_len}
use Rattle.std.proofs.lemmas.List.Elements.{All-nil, All-cons, All-append, All-map, All-filter, All-weaker, Contains-append_left, Contains-append_right}
use Rattle.lrc_base.specs.declared.grammar.Sort.{Sort}
use Rattle.lrc_base.specs.declared.grammar.Production.{Production}
use Rattle.lrc_meaning.specs.Grammar.{Grammar, occurrences_of, is_production_right, is_well_formed}
use Rattle.lrc_order_meaning.specs.declared.Need.{Need}
use Rattle.lrc_order_meaning.specs.declared.Partition.{Partition}
use Rattle.lrc_order_meaning.specs.declared.Place.{Place}
use Rattle.lrc_order_meaning.specs.Needs.{symbols_of, left_place, places_of, equation_needs, tree_needs}
use Rattle.lrc_ordered.proofs.PlaceLemmas.{places_within}
use Rattle.lrc_ordered.proofs.RangeLemmas.{all_flat, IsPlaced, places_placed, IsNeedWithin, needs_within}
use Rattle.lrc_plan_meaning.specs.declared.Action.{Action}
use Rattle.lrc_plan_meaning.specs.declared.Action.TheVariants as a
use Rattle.lrc_plan_meaning.specs.declared.Bound.{Bound}
use Rattle.lrc_plan_meaning.specs.declared.Bound.TheVariants as b
use Rattle.lrc_plan_meaning.specs.Items.{visits_of, values_of_visit, tree_of, taken, firsts_of, symbol_at, needs}
use Rattle.lrc_plan_meaning.specs.Sequences.{is_defined, visits_at, actions_of}
use Rattle.lrc_plan_meaning.specs.Bindings.{bindings_at, items_of}
use Rattle.lrc_plan_meaning.specs.Sound.{IsReady}
use Rattle.lrc_order_meaning.proofs.MemberLemmas.{member_map, member_flat, member_range}
use Rattle.lrc_plan_meaning.proofs.ReadyLemmas as runs
use Rattle.lrc_plan.proofs.PairLemmas.{all_front}
use Rattle.lrc_plan.proofs.InLemmas.{in_range, values_in, production_is_right}

-- each occurrence is listed, and each binding of a symbol from one of its visits to a later one
module _ (sorts : List Sort) (parts : List Partition) (p : Production) where
  abbrev all_visits : ℕ → ℕ
  all_visits s = visits_of parts (symbol_at sorts p s).sort

  pub value_listed : (o : ℕ) → o < length (occurrences_of sorts p) → Contains (items_of sorts parts p) (b.Value o)
  value_listed o less =
      let total = length (occurrences_of sorts p) in
      Contains-append_left (map b.Value (range_with_len 0 total)) (flat_map (λ s. bindings_at s (all_visits s)) (range_with_len 0 (length (symbols_of sorts p)))) (b.Value o)
      (member_map b.Value (range_with_len 0 total) o (member_range 0 total o (omega arith) (omega arith)))

  pub kid_listed : (s i j : ℕ) → s < length (symbols_of sorts p) → 1 ≤ i → i < j → j ≤ visits_of parts (symbol_at sorts p s).sort → Contains (items_of sorts parts p) (b.Kid s i j)
  kid_listed s i j there one less le =
      let n = all_visits s in
      Contains-append_right (map b.Value (range_with_len 0 (length (occurrences_of sorts p)))) (flat_map (λ t. bindings_at t (all_visits t)) (range_with_len 0 (length (symbols_of sorts p)))) (b.Kid s i j)
      (member_flat (λ t. bindings_at t (all_visits t)) (range_with_len 0 (length (symbols_of sorts p))) s (b.Kid s i j) (member_range 0 (length (symbols_of sorts p)) s (omega arith) (omega arith))
      (member_flat (λ k. map (b.Kid s k) (range_with_len (k + 1) (n - k))) (range_with_len 1 n) i (b.Kid s i j) (member_range 1 n i one (omega arith))
      (member_map (b.Kid s i) (range_with_len (i + 1) (n - i)) j (member_range (i + 1) (n - i) j (omega arith) (omega arith)))))

module _ (sorts : List Sort) (parts : List Partition) (prods : List Production) (p : Production) (right : is_production_right sorts prods p ≡ true) where
  abbrev pub total : ℕ
  total = length (occurrences_of sorts p)

  abbrev pub Listed : Bound → Type 0
  Listed = Contains (items_of sorts parts p)

  abbrev visits_at_symbol : ℕ → ℕ
  visits_at_symbol s = visits_of parts (symbol_at sorts p s).sort

  tree_listed : (place : Place) (tree : Option ℕ) → place.tree ≡ tree → IsPlaced sorts place → place.start ≤ total → All Listed (option_map_or (λ t. b.Value t ∷ []) tree [])
  tree_listed place None e placed le = All-nil Listed
  tree_listed place (Some t) e placed le =
      let before = placed.tree_before t e in
      All-cons Listed (b.Value t) [] (value_listed sorts parts p t (omega arith)) (All-nil Listed)

  taken_listed : (s v : ℕ) → s < length (symbols_of sorts p) → v ≤ visits_at_symbol s → All Listed (taken sorts parts (symbol_at sorts p s) s v)
  taken_listed s v there le =
      let place = symbol_at sorts p s in
      let within = places_within sorts p (suc s) (left_place p) (omega arith) in
      let placed = places_placed sorts prods p right (suc s) (left_place p) (omega arith) in
      All-append Listed (tree_of place) (values_of_visit sorts parts true place.sort place.start v ++ map (λ u. b.Kid s u v) (range_with_len 1 (v - 1)))
      (tree_listed place place.tree refl placed (omega arith))
      (All-append Listed (values_of_visit sorts parts true place.sort place.start v) (map (λ u. b.Kid s u v) (range_with_len 1 (v - 1)))
      (values_in sorts parts Listed true place.sort place.start v (λ x less. value_listed sorts parts p (place.start + x) (omega arith)))
      (All-map Listed (λ u. b.Kid s u v) (range_with_len 1 (v - 1)) (in_range (λ u. Listed (b.Kid s u v)) 1 (v - 1) (λ u low less. kid_listed sorts parts p s u v there low (omega arith) le))))

  reads_listed : (o : ℕ) → All Listed (firsts_of (flat_map equation_needs p.equations) o)
  reads_listed o =
      let front = all_front (IsNeedWithin total) (flat_map equation_needs p.equations) (flat_map (tree_needs sorts) (places_of sorts p)) (needs_within sorts prods p right) in
      All-map Listed (λ (n : Need). b.Value n.first) (filter (λ (n : Need). n.then == o) (flat_map equation_needs p.equations))
      (All-filter (λ (n : Need). n.then == o) (λ (n : Need). Listed (b.Value n.first)) (flat_map equation_needs p.equations)
      (All-weaker (IsNeedWithin total) (λ (n : Need). Listed (b.Value n.first)) (λ n h. value_listed sorts parts p n.first h.0) (flat_map equation_needs p.equations) front))

  abbrev NeedsListed : Action → Type 0
  NeedsListed x = All Listed (needs sorts parts p x)

  needs_listed : All NeedsListed (actions_of sorts parts p)
  needs_listed =
      All-append NeedsListed (map a.Eval (filter (is_defined (occurrences_of sorts p)) (range_with_len 0 total))) (flat_map (visits_at sorts parts p) (range_with_len 0 (length (symbols_of sorts p))))
      (All-map NeedsListed a.Eval (filter (is_defined (occurrences_of sorts p)) (range_with_len 0 total))
      (All-filter (is_defined (occurrences_of sorts p)) (λ o. NeedsListed (a.Eval o)) (range_with_len 0 total)
      (in_range (λ o. NeedsListed (a.Eval o)) 0 total (λ o low less. reads_listed o))))
      (all_flat (visits_at sorts parts p) NeedsListed (range_with_len 0 (length (symbols_of sorts p)))
      (in_range (λ s. All NeedsListed (visits_at sorts parts p s)) 0 (length (symbols_of sorts p))
      (λ s low less.
      let n = visits_at_symbol s in
      let there : s < length (symbols_of sorts p) = omega arith in
      All-map NeedsListed (a.Visit s) (range_with_len 1 n) (in_range (λ v. NeedsListed (a.Visit s v)) 1 n (λ v one le. taken_listed s v there (omega arith))))))

  pub is_ready : IsReady sorts parts p
  is_ready = record {
    ready = runs.ready sorts parts p needs_listed;
    hands_on = λ v w one le. runs.hands_on sorts parts p v w;
  }

pub all_ready : (g : Grammar) → IsTrue (is_well_formed g) → (parts : List Partition) → (p : Production) → Contains g.prods p → IsReady g.sorts parts p
all_ready g well parts p there = is_ready g.sorts parts g.prods p (production_is_right g well p there)
