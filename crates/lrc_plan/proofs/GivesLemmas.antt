-- What holds at the end of each segment of a production; with it, each visit gives its synthesised attributes.
use Rattle.std.proofs.Common.{◌≡◌, ℕ, zero, suc, ◌+◌, ◌-◌, ◌<◌, ◌≤◌, true, false, ◌&&◌, IsTrue, List, [], ◌∷◌, ◌++◌, length, get_or, All, Contains, ◌⊎◌, inl, inr, refl, sym, ap, ◌∙◌, subst, append_assoc, append-nil, length-append, arith}
use Rattle.std.specs.Prelude.{flat_map}
use Rattle.std.specs.List.{range_with_len}
use Rattle.std.proofs.lemmas.Bool.{cases_eq}
use Rattle.std.proofs.lemmas.Option.{slice_get_within}
use Rattle.std.proofs.lemmas.List.Elements.{All-contains, Contains-append_left, Contains-append_right, Contains-append_cases}
use Rattle.lrc_base.specs.declared.grammar.Sort.{Sort}
use Rattle.lrc_base.specs.declared.grammar.Production.{Production}
use Rattle.lrc_meaning.specs.Grammar.{Grammar, attrs_of_sort, is_well_formed}
use Rattle.lrc_order_meaning.specs.declared.Partition.{Partition}
use Rattle.lrc_order_meaning.specs.Extended.{ExtendedPath}
use Rattle.lrc_order_meaning.specs.Needs.{left_place}
use Rattle.lrc_order_meaning.specs.Ordered.{Partitions, ArePartitions, IsGivenThere, IsAcyclic, IsOrdered}
use Rattle.lrc_ordered.proofs.PlaceLemmas.{places_within}
use Rattle.lrc_plan_meaning.specs.declared.Action.{Action}
use Rattle.lrc_plan_meaning.specs.declared.Bound.{Bound}
use Rattle.lrc_plan_meaning.specs.declared.Bound.TheVariants as b
use Rattle.lrc_plan_meaning.specs.Items.{is_among, visits_of, values_of_visit, needs, makes}
use Rattle.lrc_plan_meaning.specs.Sequences.{State, greedy, entered, actions_of, segments_from, segments_of, segment}
use Rattle.lrc_plan_meaning.specs.Bindings.{items_of, gained, used, binding}
use Rattle.lrc_plan_meaning.specs.Sound.{handed_in, GivesAll}
use Rattle.lrc_plan_meaning.proofs.ItemLemmas.{among}
use Rattle.lrc_plan_meaning.proofs.GreedyLemmas.{greedy_keeps}
use Rattle.lrc_order_meaning.proofs.MemberLemmas.{member_flat, member_filter, member_range}
use Rattle.std.proofs.lemmas.List.{get_or_default}
use Rattle.lrc_plan_meaning.proofs.ReadyLemmas.{RunsFrom, runs_on, IsEarlier, made_by, entering, segment_at}
use Rattle.lrc_plan.proofs.ListedLemmas.{value_listed}
use Rattle.lrc_plan.proofs.InLemmas.{production_is_right}
use Rattle.lrc_plan.proofs.EndLemmas.{IsKept, kept_on, IsMoved, moves_on, AllDone, ends, stays}
use Rattle.lrc_plan.proofs.TraceLemmas.{from_values}
use Rattle.lrc_plan.proofs.BackLemmas.{given_at_end}

module _ (sorts : List Sort) (parts : List Partition) (p : Production) where
  -- it was done in an earlier visit
  abbrev pub DoneBefore : ℕ → Action → Type 0
  DoneBefore v x = (u : ℕ) × (1 ≤ u) × (u < v) × Contains (segment sorts parts p u) x

  -- the state at the end of a segment
  pub record EndsAt (w : ℕ) : Type 0 where
    pub state : State
    pub kept : IsKept sorts parts p state
    pub ended : AllDone sorts parts p state
    pub taken : (u : ℕ) → 1 ≤ u → u ≤ w → All (Contains state.available) (entering sorts parts p u)
    pub left_or_done : (x : Action) → Contains (actions_of sorts parts p) x → Contains state.left x ⊎ DoneBefore (w + 1) x
    pub from : (y : Bound) → Contains state.available y → Contains (entering sorts parts p w ++ made_by sorts parts p (segment sorts parts p w)) y ⊎ IsEarlier sorts parts p w y

  pub ends_at : (n v : ℕ) (s : State) (pre : List (List Action)) → segments_of sorts parts p ≡ pre ++ segments_from sorts parts p n v s → length pre + 1 ≡ v
      → ((y : Bound) → Contains s.available y → IsEarlier sorts parts p v y) → IsKept sorts parts p s
      → ((u : ℕ) → 1 ≤ u → u < v → All (Contains s.available) (entering sorts parts p u))
      → ((x : Action) → Contains (actions_of sorts parts p) x → Contains s.left x ⊎ DoneBefore v x) → (w : ℕ) → v ≤ w → w < v + n → EndsAt w
  ends_at zero v s pre are size earlier kept taken before w low high = absurd (omega arith)
  ends_at (suc n) v s pre are size earlier kept taken before w low high =
      let E = entering sorts parts p v in
      let A = s.available ++ E in
      let s1 = entered sorts parts p v s in
      let t = greedy sorts parts p (length s.left) s1 in
      let runs = greedy_keeps sorts parts p (RunsFrom sorts parts p A) (runs_on sorts parts p A) (length s.left) s1 (record { available = sym (append-nil A); ready = tt }) in
      let now : segment sorts parts p v ≡ t.done = segment_at sorts parts p pre (segments_from sorts parts p n (v + 1) t) t.done v are size in
      let kept1 : IsKept sorts parts p s1 =
      record {
        kept = λ x m.
            elim (kept.kept x m) [
              | inl left ↦ inl left
              | inr made ↦ inr (λ k d less. Contains-append_left s.available E (get_or (makes sorts parts p x) k d) (made k d less))
            ];
      } in
      let kept_t = greedy_keeps sorts parts p (IsKept sorts parts p) (kept_on sorts parts p) (length s.left) s1 kept1 in
      let ended_t = ends sorts parts p (length s.left) s1 (omega arith) in
      let taken_t : (u : ℕ) → 1 ≤ u → u < v + 1 → All (Contains t.available) (entering sorts parts p u) =
      λ u one le.
      stays sorts parts p (entering sorts parts p u) (length s.left) s1
      (elim (cases_eq u v) [
        | inl e ↦ λ k d less. Contains-append_right s.available E (get_or (entering sorts parts p u) k d) (subst (λ z. Contains (entering sorts parts p z) (get_or (entering sorts parts p u) k d)) e (k, less, get_or_default (entering sorts parts p u) k (get_or (entering sorts parts p u) k d) d less))
        | inr ne ↦ λ k d less. Contains-append_left s.available E (get_or (entering sorts parts p u) k d) (taken u one (omega arith) k d less)
      ]) in
      let moved = greedy_keeps sorts parts p (IsMoved sorts parts p s.left) (moves_on sorts parts p s.left) (length s.left) s1 (record { moved = λ x m. inl m }) in
      let done_t : (x : Action) → Contains (actions_of sorts parts p) x → Contains t.left x ⊎ DoneBefore (v + 1) x =
      λ x m.
      elim (before x m) [
        | inr old ↦ let l = old.2 in inr (old.0, old.1, omega arith, old.3)
        | inl left ↦
            elim (moved.moved x left) [
              | inl still ↦ inl still
              | inr done ↦ inr (v, omega arith, omega arith, subst (λ xs. Contains xs x) (sym now) done)
            ]
      ] in
      let from_t : (y : Bound) → Contains t.available y → Contains (E ++ made_by sorts parts p (segment sorts parts p v)) y ⊎ IsEarlier sorts parts p v y =
      λ y m.
      elim (Contains-append_cases A (made_by sorts parts p t.done) y (subst (λ xs. Contains xs y) runs.available m)) [
        | inr made ↦ inl (Contains-append_right E (made_by sorts parts p (segment sorts parts p v)) y (subst (λ xs. Contains (made_by sorts parts p xs) y) (sym now) made))
        | inl old ↦
            elim (Contains-append_cases s.available E y old) [
              | inl older ↦ inr (earlier y older)
              | inr here ↦ inl (Contains-append_left E (made_by sorts parts p (segment sorts parts p v)) y here)
            ]
      ] in
      elim (cases_eq v w) [
        | inl e ↦
            subst EndsAt e
            (record { state = t; kept = kept_t; ended = ended_t; taken = λ u one le. taken_t u one (omega arith); left_or_done = done_t; from = from_t })
        | inr ne ↦
            let longer = length-append pre (t.done ∷ []) in
            ends_at n (v + 1) t (pre ++ t.done ∷ []) (are ∙ sym (append_assoc pre (t.done ∷ []) (segments_from sorts parts p n (v + 1) t))) (omega arith)
            (λ y m.
            elim (from_t y m) [
              | inl here ↦ record { visit = v; first = omega arith; before = omega arith; gained_there = here }
              | inr old ↦ let l = old.before in record { visit = old.visit; first = old.first; before = omega arith; gained_there = old.gained_there }
            ]) kept_t taken_t done_t w (omega arith) (omega arith)
      ]

  pub end_of : (w : ℕ) → 1 ≤ w → w ≤ visits_of parts p.left → EndsAt w
  end_of w one le =
      ends_at (visits_of parts p.left) 1 (record { done = []; left = actions_of sorts parts p; available = [] }) [] refl refl (λ y m. let l = m.1 in absurd (omega arith))
      (record { kept = λ x m. inl m }) (λ u low less. absurd (omega arith)) (λ x m. inl m) w one (omega arith)

module _ (g : Grammar) (well : IsTrue (is_well_formed g)) (found : Partitions) (are : ArePartitions g found) (there : All (IsGivenThere g.sorts) found.given)
    (p : Production) (in_grammar : Contains g.prods p) (acyclic : IsAcyclic (ExtendedPath g found.given p)) where
  pub gives_all : GivesAll g.sorts found.sorts p
  gives_all v one le k d less =
      let sorts = g.sorts in
      let parts = found.sorts in
      let right = production_is_right g well p in_grammar in
      let values = values_of_visit sorts parts false p.left 0 v in
      let y = get_or values k d in
      let end = end_of sorts parts p v one le in
      let r = from_values sorts parts false p.left 0 v y (k, less, get_or_default values k y d less) in
      let small = slice_get_within (attrs_of_sort sorts p.left) r.number r.attr r.is_attr in
      let within = places_within sorts p 0 (left_place p) (omega arith) in
      let zero_more : 0 + r.number ≡ r.number = omega arith in
      let is : b.Value r.number ≡ y = ap b.Value (sym zero_more) ∙ r.is in
      let available : Contains end.state.available y =
      subst (λ z. Contains end.state.available z) is
      (given_at_end g found are there p right end.state end.kept end.ended v end.taken acyclic r.number r.attr r.is_attr r.direction r.visit) in
      let E = entering sorts parts p v in
      let M = made_by sorts parts p (segment sorts parts p v) in
      let rest = flat_map (λ u. binding sorts parts p u v) (range_with_len 1 (v - 1)) in
      elim (end.from y available) [
        | inl here ↦
            elim (Contains-append_cases E M y here) [
              | inl e ↦ Contains-append_left (handed_in sorts parts p v) M y (Contains-append_left E rest y e)
              | inr m ↦ Contains-append_right (handed_in sorts parts p v) M y m
            ]
        | inr old ↦
            let u = old.visit in
            let first = old.first in
            let before = old.before in
            let from = gained sorts parts p u (segment sorts parts p u) in
            let to = used sorts parts p v (segment sorts parts p v) in
            let in_from : is_among from y ≡ true = among from y old.gained_there in
            let in_to : is_among to y ≡ true =
            among to y (Contains-append_right (flat_map (needs sorts parts p) (segment sorts parts p v)) values y (k, less, get_or_default values k y d less)) in
            let listed = subst (λ z. Contains (items_of sorts parts p) z) is (value_listed sorts parts p r.number (omega arith)) in
            Contains-append_left (handed_in sorts parts p v) M y
            (Contains-append_right E rest y
            (member_flat (λ w. binding sorts parts p w v) (range_with_len 1 (v - 1)) u y (member_range 1 (v - 1) u first (omega arith))
            (member_filter (λ x. is_among from x && is_among to x) (items_of sorts parts p) y listed (rw (in_from, in_to) refl))))
      ]

pub ordered_gives : (g : Grammar) → IsTrue (is_well_formed g) → (found : Partitions) → ArePartitions g found → All (IsGivenThere g.sorts) found.given → IsOrdered g found.given
    → (p : Production) → Contains g.prods p → GivesAll g.sorts found.sorts p
ordered_gives g well found are there ordered p in_grammar =
    gives_all g well found are there p in_grammar (All-contains (λ q. IsAcyclic (ExtendedPath g found.given q)) g.prods p ordered.extended in_grammar)
