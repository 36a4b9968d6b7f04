-- What is read off a plan by number.
use Rattle.std.proofs.Common.{◌≡◌, ℕ, ◌+◌, ◌-◌, ◌<◌, ◌≤◌, List, [], length, map, get_or, slice_get, Option, Some, sym, ap, ◌∙◌, subst, arith}
use Rattle.std.specs.Prelude.{IfSome}
use Rattle.std.proofs.lemmas.Option.{slice_get-get_or}
use Rattle.std.proofs.lemmas.List.{get_or-map, length-map, get_or_default}
use Rattle.std.proofs.lemmas.List.FromFn.{get_or-map-range_with_len, length-map-range_with_len}
use Rattle.lrc_base.specs.declared.grammar.Sort.{Sort}
use Rattle.lrc_base.specs.declared.grammar.Production.{Production}
use Rattle.lrc_order_meaning.specs.declared.Partition.{Partition}
use Rattle.lrc_ordered.proofs.BridgeLemmas.{item_at}
use Rattle.lrc_plan_meaning.specs.declared.Action.{Action}
use Rattle.lrc_plan_meaning.specs.declared.Bound.{Bound}
use Rattle.lrc_plan_meaning.specs.declared.Sequences.{Sequences}
use Rattle.lrc_plan_meaning.specs.Items.{visits_of}
use Rattle.lrc_plan_meaning.specs.Sequences.{segment, segments_of}
use Rattle.lrc_plan_meaning.specs.Bindings.{binding}
use Rattle.lrc_plan_meaning.specs.Plans.{bindings_from, bindings_of, sequences_of}
use Rattle.lrc_plan.proofs.BindingLemmas.{segments_number}

pub found_at : {X : Type 0} (xs : List X) (i : ℕ) → i < length xs → (x : X) × (slice_get xs i ≡ Some x) × (get_or xs i x ≡ x)
found_at xs i there = let x = item_at xs i there in (x.0, slice_get-get_or xs i x.0 there ∙ ap Some x.1, x.1)

pub if_some : {X : Type 0} (P : X → Type 0) (o : Option X) (x : X) → o ≡ Some x → P x → IfSome o P
if_some P o x e h = subst (λ found. IfSome found P) (sym e) h

pub in_some : {X : Type 0} (P : X → Type 0) (o : Option X) (x : X) → o ≡ Some x → IfSome o P → P x
in_some P o x e h = subst (λ found. IfSome found P) e h

module _ (sorts : List Sort) (parts : List Partition) where
  pub production_read : (prods : List Production) (all : List Sequences) (i : ℕ) (result : Sequences) → i < length prods → all ≡ map (sequences_of sorts parts) prods
      → result ≡ get_or all i result → IfSome (slice_get prods i) (λ p. result ≡ sequences_of sorts parts p)
  production_read prods all i result there made is =
      let p = found_at prods i there in
      let count = length-map prods (sequences_of sorts parts) in
      if_some (λ p. result ≡ sequences_of sorts parts p) (slice_get prods i) p.0 p.1
      (is ∙ ap (λ (xs : List Sequences). get_or xs i result) made ∙ get_or-map (sequences_of sorts parts) prods i p.0 result there ∙ ap (sequences_of sorts parts) p.2)

  module _ (p : Production) where
    pub actions_within : (actions : List (List Action)) (v : ℕ) → actions ≡ segments_of sorts parts p → 1 ≤ v → v ≤ visits_of parts p.left → v - 1 < length actions
    actions_within actions v are one le =
        let count : length actions ≡ visits_of parts p.left = ap (length {A = List Action}) are ∙ segments_number sorts parts p in omega arith

    pub actions_read : (actions : List (List Action)) (v : ℕ) (result : List Action) → actions ≡ segments_of sorts parts p → 1 ≤ v → v ≤ visits_of parts p.left → result ≡ get_or actions (v - 1) result
        → result ≡ segment sorts parts p v
    actions_read actions v result are one le is =
        is ∙ get_or_default actions (v - 1) result [] (actions_within actions v are one le) ∙ ap (λ (xs : List (List Action)). get_or xs (v - 1) []) are

    pub bindings_within : (all : List (List (List Bound))) (v : ℕ) → all ≡ bindings_of sorts parts p → 1 ≤ v → v ≤ visits_of parts p.left → v - 1 < length all
    bindings_within all v are one le =
        let n = visits_of parts p.left in
        let count : length all ≡ n = ap (length {A = List (List Bound)}) are ∙ length-map-range_with_len (bindings_from sorts parts p n) 1 n in omega arith

    pub later_read : (all : List (List (List Bound))) (v : ℕ) (later : List (List Bound)) → all ≡ bindings_of sorts parts p → 1 ≤ v → v ≤ visits_of parts p.left → later ≡ get_or all (v - 1) later
        → later ≡ bindings_from sorts parts p (visits_of parts p.left) v
    later_read all v later are one le is =
        let n = visits_of parts p.left in
        is ∙ ap (λ (xs : List (List (List Bound))). get_or xs (v - 1) later) are
        ∙ get_or-map-range_with_len (bindings_from sorts parts p n) 1 n (v - 1) v later (omega arith) (omega arith)

    pub later_within : (v w : ℕ) (later : List (List Bound)) → later ≡ bindings_from sorts parts p (visits_of parts p.left) v → v < w → w ≤ visits_of parts p.left → w - v - 1 < length later
    later_within v w later are less le =
        let n = visits_of parts p.left in
        let count : length later ≡ n - v = ap (length {A = List Bound}) are ∙ length-map-range_with_len (binding sorts parts p v) (v + 1) (n - v) in omega arith

    pub binding_read : (v w : ℕ) (later : List (List Bound)) (result : List Bound) → later ≡ bindings_from sorts parts p (visits_of parts p.left) v → v < w → w ≤ visits_of parts p.left
        → result ≡ get_or later (w - v - 1) result → result ≡ binding sorts parts p v w
    binding_read v w later result are less le is =
        let n = visits_of parts p.left in
        is ∙ ap (λ (xs : List (List Bound)). get_or xs (w - v - 1) result) are
        ∙ get_or-map-range_with_len (binding sorts parts p v) (v + 1) (n - v) (w - v - 1) w result (omega arith) (omega arith)
