-- What the partitions of a grammar say of its visits.
use Rattle.std.proofs.Common.{◌≡◌, ℕ, zero, suc, ◌+◌, ◌*◌, ◌/◌, ◌<◌, ◌≤◌, true, false, not, IsTrue, [], length, get_or, All, Option, Some, None, ◌⊎◌, inl, inr, slice_get, sym, ap, subst, arith}
use Rattle.std.specs.Prelude.{slice_index}
use Rattle.std.specs.Option.{option_map_or}
use Rattle.std.specs.List.{range_with_len, list_all}
use Rattle.std.proofs.lemmas.Bool.{and_parts, not-true, cases_lt, ltb-true}
use Rattle.std.proofs.lemmas.Option.{slice_get-get_or, slice_get_past}
use Rattle.std.proofs.lemmas.List.FromFn.{length-range_with_len, get_or-range_with_len}
use Rattle.lrc_base.specs.declared.grammar.Attr.{Attr}
use Rattle.lrc_base.specs.declared.grammar.Kind.TheVariants as k
use Rattle.lrc_base.specs.declared.grammar.Sort.{Sort}
use Rattle.lrc_meaning.specs.Grammar.{Grammar, attrs_of_sort, is_well_formed}
use Rattle.lrc_meaning.proofs.ListLemmas.{list_all-at}
use Rattle.lrc_order_meaning.specs.declared.Partition.{Partition}
use Rattle.lrc_order_meaning.specs.Sets.{HasTurn, CanStand, Placed}
use Rattle.lrc_order_meaning.specs.Ordered.{IsGivenThere, Partitions, ArePartitions}
use Rattle.lrc_order_meaning.proofs.TransitiveLemmas.{has_place}
use Rattle.lrc_plan_meaning.specs.Items.{visit_of, visits_of}
use Rattle.lrc_order_meaning.proofs.MemberLemmas.{member_range}
use Rattle.lrc_laws.proofs.AlikeLemmas.{AreVisited}
use Rattle.lrc_laws.proofs.BuildLemmas.{AreSome}

some_attrs : (o : Option Sort) (s n x : ℕ) → (n ≤ s → o ≡ None) → x < length (option_map_or (λ (t : Sort). t.attrs) o []) → s < n ⊎ (n ≤ s) → s < n
some_attrs o s n x none less (inl below) = below
some_attrs o s n x none less (inr above) =
    let l = subst (λ q. x < length (option_map_or (λ (t : Sort). t.attrs) q [])) (none above) less in absurd (omega arith)

half_up : (set visits visit : ℕ) → visit + (set + 1) / 2 ≡ visits + 1 → 1 ≤ set → set ≤ 2 * visits → (1 ≤ visit) × (visit ≤ visits)
half_up set visits visit e low high = (omega arith, omega arith)

module _ (g : Grammar) (found : Partitions) (are : ArePartitions g found) where
  -- the partition of a sort that is there
  partition_at : (s : ℕ) → s < length g.sorts → (partition : Partition) × (slice_get found.sorts s ≡ Some partition)
  partition_at s less =
      let d : Partition = record { visits = 0; visit_of = []; before = record { points = 0; rows = [] } } in
      let within : s < length found.sorts = subst (λ n. s < n) (sym are.sorts) less in
      (get_or found.sorts s d, slice_get-get_or found.sorts s d within)

  -- a sort with an attribute is there
  pub sort_there : (s x : ℕ) → x < length (attrs_of_sort g.sorts s) → s < length g.sorts
  sort_there s x less = some_attrs (slice_get g.sorts s) s (length g.sorts) x (λ above. slice_get_past g.sorts s above) less (cases_lt s (length g.sorts))

  pub each_some : AreSome g found.sorts
  each_some s less =
      let at = partition_at s less in
      let partition = are.each s at.0 at.1 in
      subst (λ n. 1 ≤ n) (sym (ap (λ o. option_map_or (λ (q : Partition). q.visits) o 0) at.1)) partition.visits.0.some

  set_low : (s set a : ℕ) → Placed g found.given s set a → 1 ≤ set
  set_low s zero a h = absurd h
  set_low s (suc n) a h = omega arith

  pub each_visited : AreVisited g found.sorts
  each_visited s x less =
      let at = partition_at s (sort_there s x less) in
      let partition = are.each s at.0 at.1 in
      let counted : x < length at.0.visit_of = subst (λ n. x < n) (sym partition.attributes) less in
      let of = partition.visit_of x counted in
      let low = set_low s of.set x of.in_set.0 in
      let high : of.set ≤ 2 * at.0.visits =
      elim (cases_lt (2 * at.0.visits) of.set) [ inl beyond ↦ absurd (of.in_set.1 (2 * at.0.visits) beyond (partition.visits.0.all x less)) | inr within ↦ within ] in
      let bounds = half_up of.set at.0.visits (slice_index at.0.visit_of x) of.from_last low high in
      let visit : visit_of found.sorts s x ≡ slice_index at.0.visit_of x = ap (λ o. option_map_or (λ (q : Partition). slice_index q.visit_of x) o 0) at.1 in
      let visits : visits_of found.sorts s ≡ at.0.visits = ap (λ o. option_map_or (λ (q : Partition). q.visits) o 0) at.1 in
      (subst (λ v. 1 ≤ v) (sym visit) bounds.0, subst (λ v. v ≤ visits_of found.sorts s) (sym visit) (subst (λ n. slice_index at.0.visit_of x ≤ n) (sym visits) bounds.1))

  module _ (formed : IsTrue (is_well_formed g)) (there : All (IsGivenThere g.sorts) found.given) where
    start_right : (g.start < length g.sorts) × (list_all (λ (a : Attr). not a.inherited) (attrs_of_sort g.sorts g.start) ≡ true)
    start_right = let both = and_parts _ _ (and_parts _ _ formed).1 in (ltb-true g.start (length g.sorts) both.0, both.1)

    pub start_there : g.start < length g.sorts
    start_there = start_right.0

    -- the start sort inherits nothing
    pub start_plain : (x : ℕ) (attr : Attr) → slice_get (attrs_of_sort g.sorts g.start) x ≡ Some attr → attr.inherited ≡ false
    start_plain x attr e = not-true attr.inherited (list_all-at (λ (a : Attr). not a.inherited) (attrs_of_sort g.sorts g.start) x attr start_right.1 e)

    abbrev count : ℕ
    count = length (attrs_of_sort g.sorts g.start)

    has_turn : (a : ℕ) → a < count → HasTurn g g.start 1 a
    has_turn a less =
        let d : Attr = record { name = []; inherited = true; kind = k.Int } in
        let at = slice_get-get_or (attrs_of_sort g.sorts g.start) a d less in
        record { attr = get_or (attrs_of_sort g.sorts g.start) a d; is_there = at; direction = start_plain a (get_or (attrs_of_sort g.sorts g.start) a d) at }

    -- so all its attributes can stand in the first set
    all_stand : CanStand g found.given g.start 1 (Placed g found.given g.start 0) (range_with_len 0 count)
    all_stand = record {
      turn = λ i d less.
          let l : i < count = subst (λ n. i < n) (length-range_with_len 0 count) less in
          let at = get_or-range_with_len 0 count i d l in
          let e : i ≡ get_or (range_with_len 0 count) i d = omega (arith, at) in
          subst (HasTurn g g.start 1) e (has_turn i l);
      closed = λ a b c pair.
          let place = has_place g found.given there g.start a b pair in
          inr (member_range 0 count b (omega arith) (let w = place.b_in in omega (arith, w)));
    }

    one_visit_is_enough : (a : ℕ) → a < count → Placed g found.given g.start 2 a
    one_visit_is_enough a less = inl (inr (record { set = range_with_len 0 count; can_stand = all_stand; member = member_range 0 count a (omega arith) (omega arith) }))

    -- and it has one visit
    pub start_visits : visits_of found.sorts g.start ≡ 1
    start_visits =
        let at = partition_at g.start start_there in
        let partition = are.each g.start at.0 at.1 in
        let low = partition.visits.0.some in
        let visits : visits_of found.sorts g.start ≡ at.0.visits = ap (λ o. option_map_or (λ (q : Partition). q.visits) o 0) at.1 in
        let high : at.0.visits ≤ 1 =
        elim (cases_lt 1 at.0.visits) [
          | inl more ↦ absurd (partition.visits.1 1 more (record { some = omega arith; all = one_visit_is_enough }))
          | inr within ↦ within
        ] in
        omega (arith, low, high, visits)
