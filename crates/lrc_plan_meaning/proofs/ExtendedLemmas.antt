-- The pairs that are read off partitions are the extended dependencies.
use Rattle.std.proofs.Common.{◌≡◌, ℕ, suc, ◌+◌, ◌<◌, true, false, length, map, slice_get, All, Contains, Some, ◌↔◌, inl, inr, sym, ap, ◌∙◌, arith}
use Rattle.std.specs.Prelude.{filter, flat_map}
use Rattle.std.specs.Option.{option_map_or}
use Rattle.std.specs.List.{range_with_len}
use Rattle.std.proofs.lemmas.Option.{slice_get_cases}
use Rattle.std.proofs.lemmas.List.Elements.{All-contains, Contains-append_left, Contains-append_right, Contains-append_cases}
use Rattle.lrc_base.specs.declared.grammar.Production.{Production}
use Rattle.lrc_meaning.specs.Grammar.{Grammar, attrs_of_sort}
use Rattle.lrc_graph.specs.Pairs.{paired}
use Rattle.lrc_order_meaning.specs.declared.Need.{Need}
use Rattle.lrc_order_meaning.specs.declared.Partition.{Partition}
use Rattle.lrc_order_meaning.specs.declared.Place.{Place}
use Rattle.lrc_order_meaning.specs.Needs.{need, needs_of, places_of}
use Rattle.lrc_order_meaning.specs.Sets.{Before}
use Rattle.lrc_order_meaning.specs.Extended.{Extended}
use Rattle.lrc_order_meaning.specs.Ordered.{Partitions, ArePartitions, IsPartition, IsGivenThere}
use Rattle.lrc_order_meaning.proofs.TransitiveLemmas.{has_place}
use Rattle.lrc_order_meaning.proofs.TurnLemmas.{placed_within}
use Rattle.lrc_plan_meaning.specs.Items.{comes_before, ordered_at, extended_of}
use Rattle.lrc_order_meaning.proofs.MemberLemmas.{member_map, member_flat, member_filter, member_range, member_of_flat, member_of_map, member_of_filter}

module _ (g : Grammar) (found : Partitions) (are : ArePartitions g found) (there : All (IsGivenThere g.sorts) found.given) where
  -- the partition of a sort that is there
  pub partition_of : (s : ℕ) → s < length g.sorts → (part : Partition) × (slice_get found.sorts s ≡ Some part) × IsPartition g found.given s part
  partition_of s less =
      elim (slice_get_cases found.sorts s).1 [
        | inl x ↦ (x.0, x.2, are.each s x.0 x.2)
        | inr past ↦ let end = past.0 in let count = are.sorts in absurd (omega arith)
      ]

  -- attributes of which one comes before the other are there
  before_within : (s x y : ℕ) → Before g found.given s x y → (x < length (attrs_of_sort g.sorts s)) × (y < length (attrs_of_sort g.sorts s))
  before_within s x y (inl pair) = let w = has_place g found.given there s x y pair in (w.a_in, w.b_in)
  before_within s x y (inr sets) =
      (placed_within g found.given s (suc sets.0) x sets.1.0, placed_within g found.given s sets.0 y sets.2.0)

  pub before_iff : (s : ℕ) → s < length g.sorts → (x y : ℕ) → (comes_before found.sorts s x y ≡ true) ↔ Before g found.given s x y
  before_iff s less x y =
      let part = partition_of s less in
      let e : comes_before found.sorts s x y ≡ paired part.0.before x y =
      ap (λ o. option_map_or (λ (q : Partition). paired q.before x y) o false) part.1 in
      (λ h. (part.2.before x y).0 (sym e ∙ h), λ b. e ∙ (part.2.before x y).1 b)

  ordered_pairs : (place : Place) → place.sort < length g.sorts → (x y : ℕ) → Before g found.given place.sort x y
      → Contains (ordered_at g.sorts found.sorts place) (need (place.start + x) (place.start + y))
  ordered_pairs place less x y before =
      let n = length (attrs_of_sort g.sorts place.sort) in
      let within = before_within place.sort x y before in
      let x_in = within.0 in
      let y_in = within.1 in
      member_flat (λ k. map (λ m. need (place.start + k) (place.start + m)) (filter (comes_before found.sorts place.sort k) (range_with_len 0 n))) (range_with_len 0 n) x
      (need (place.start + x) (place.start + y)) (member_range 0 n x (omega arith) (omega arith))
      (member_map (λ m. need (place.start + x) (place.start + m)) (filter (comes_before found.sorts place.sort x) (range_with_len 0 n)) y
      (member_filter (comes_before found.sorts place.sort x) (range_with_len 0 n) y (member_range 0 n y (omega arith) (omega arith)) ((before_iff place.sort less x y).1 before)))

  module _ (p : Production) (known : All (λ (place : Place). place.sort < length g.sorts) (places_of g.sorts p)) where
    pub read_extended : (x y : ℕ) → Contains (extended_of g.sorts found.sorts p) (need x y) → Extended g found.given p x y
    read_extended x y c =
        elim (Contains-append_cases (needs_of g.sorts p) (flat_map (ordered_at g.sorts found.sorts) (places_of g.sorts p)) (need x y) c) [
          | inl n ↦ inl n
          | inr m ↦
              let at = member_of_flat (ordered_at g.sorts found.sorts) (places_of g.sorts p) (need x y) m in
              let place = at.0 in
              let n = length (attrs_of_sort g.sorts place.sort) in
              let row = member_of_flat (λ k. map (λ j. need (place.start + k) (place.start + j)) (filter (comes_before found.sorts place.sort k) (range_with_len 0 n))) (range_with_len 0 n) (need x y) at.2 in
              let pair = member_of_map (λ j. need (place.start + row.0) (place.start + j)) (filter (comes_before found.sorts place.sort row.0) (range_with_len 0 n)) (need x y) row.2 in
              let passes = member_of_filter (comes_before found.sorts place.sort row.0) (range_with_len 0 n) pair.0 pair.1 in
              let less = All-contains (λ (q : Place). q.sort < length g.sorts) (places_of g.sorts p) place known at.1 in
              inr (record {
                place = place;
                is_place = at.1;
                first = row.0;
                then = pair.0;
                before = (before_iff place.sort less row.0 pair.0).0 passes.1;
                x_is = sym (ap (λ (q : Need). q.first) pair.2);
                y_is = sym (ap (λ (q : Need). q.then) pair.2);
              })
        ]

    pub extended_read : (x y : ℕ) → Extended g found.given p x y → Contains (extended_of g.sorts found.sorts p) (need x y)
    extended_read x y (inl n) = Contains-append_left (needs_of g.sorts p) (flat_map (ordered_at g.sorts found.sorts) (places_of g.sorts p)) (need x y) n
    extended_read x y (inr h) =
        let less = All-contains (λ (q : Place). q.sort < length g.sorts) (places_of g.sorts p) h.place known h.is_place in
        Contains-append_right (needs_of g.sorts p) (flat_map (ordered_at g.sorts found.sorts) (places_of g.sorts p)) (need x y)
        (member_flat (ordered_at g.sorts found.sorts) (places_of g.sorts p) h.place (need x y) h.is_place
        (rw (h.x_is, h.y_is) (ordered_pairs h.place less h.first h.then h.before)))
