-- In an ordered grammar each visit gives all its synthesised attributes.
use Rattle.std.proofs.Common.{◌≡◌, ℕ, zero, suc, ◌+◌, ◌-◌, ◌<◌, ◌≤◌, Bool, true, false, not, ◌||◌, ◌==◌, List, [], ◌∷◌, length, map, get_or, slice_get, slice_index, All, Contains, Some, ◌⊎◌, inl, inr, refl, sym, ap, ◌∙◌, subst, arith}
use Rattle.std.specs.Prelude.{filter, flat_map}
use Rattle.std.specs.Option.{option_map_or}
use Rattle.std.specs.List.{range_with_len, list_any, IsDistinct, AllByRecursion}
use Rattle.std.proofs.lemmas.Bool.{cases_lt, true≢false, ne_eqb, eqb-true, true_from_ne_false}
use Rattle.std.proofs.Math.Dec.{eqb}
use Rattle.std.proofs.lemmas.Map.Steps.{length-le_from_distinct_below}
use Rattle.std.proofs.lemmas.Option.{slice_get_within}
use Rattle.std.proofs.lemmas.List.Elements.{All-contains, Contains-append_left, Contains-append_right}
use Rattle.lrc_base.specs.declared.grammar.Attr.{Attr}
use Rattle.lrc_base.specs.declared.grammar.Production.{Production}
use Rattle.lrc_meaning.specs.Grammar.{Grammar, Occurrence, attrs_of_sort, occurrences_of, own_occurrence, symbol_occurrence, is_production_right}
use Rattle.lrc_graph.specs.Pairs.{Path, step, onward}
use Rattle.lrc_graph.proofs.PairsLemmas.{joined}
use Rattle.lrc_order_meaning.specs.declared.Need.{Need}
use Rattle.lrc_order_meaning.specs.declared.Partition.{Partition}
use Rattle.lrc_order_meaning.specs.declared.Place.{Place}
use Rattle.lrc_order_meaning.specs.Needs.{need, places_of, symbols_of, left_place, tree_needs, occurrences_at, equation_needs}
use Rattle.lrc_order_meaning.specs.Sets.{Before}
use Rattle.lrc_order_meaning.specs.Extended.{Extended, ExtendedPath}
use Rattle.lrc_order_meaning.specs.Ordered.{Partitions, ArePartitions, IsGivenThere, IsAcyclic}
use Rattle.lrc_order_meaning.proofs.TurnLemmas.{sets_in_turn}
use Rattle.lrc_ordered.proofs.PlaceLemmas.{places_within}
use Rattle.lrc_ordered.proofs.RangeLemmas.{needs_within, places_placed, IsNeedWithin}
use Rattle.lrc_ordered.proofs.BridgeLemmas.{item_at}
use Rattle.lrc_plan_meaning.specs.declared.Action.TheVariants as a
use Rattle.lrc_plan_meaning.specs.declared.Bound.TheVariants as b
use Rattle.lrc_plan_meaning.specs.Items.{is_among, visits_of, visit_of, values_of_visit, given_back, extended_of, symbol_at}
use Rattle.lrc_plan_meaning.specs.Sequences.{State, is_defined}
use Rattle.lrc_plan_meaning.proofs.ItemLemmas.{contained}
use Rattle.lrc_plan_meaning.proofs.ExtendedLemmas.{partition_of, read_extended}
use Rattle.std.proofs.lemmas.List.{get_or_default}
use Rattle.lrc_order_meaning.proofs.MemberLemmas.{member_of_map, member_of_filter, member_first, member_later, member_map, member_flat, member_range}
use Rattle.lrc_plan.proofs.WaitingLemmas.{defined_at}
use Rattle.lrc_plan.proofs.OccurrenceLemmas.{stands_at}
use Rattle.lrc_plan.proofs.InLemmas.{extended_within}
use Rattle.lrc_plan.proofs.EndLemmas.{IsKept, AllDone}
use Rattle.lrc_plan.proofs.TurnLemmas.{has_visit, part}
use Rattle.lrc_plan.proofs.DecidedLemmas.{as_table}
use Rattle.lrc_plan.proofs.TraceLemmas.{awaits_absent, in_values, visit_blocked, still_visit, still_eval, not_absent}

-- numbers of which no two are equal, and one more
differ : (q : ℕ) (xs : List ℕ) → ((y : ℕ) → Contains xs y → q ≡ y → ⊥) → AllByRecursion (λ y. eqb q y ≡ false) xs
differ q [] other = tt
differ q (x ∷ xs) other = (ne_eqb q x (other x (member_first x xs)), differ q xs (λ y m. other y (member_later x xs y m)))

distinct_more : (q : ℕ) (xs : List ℕ) → ((y : ℕ) → Contains xs y → q ≡ y → ⊥) → IsDistinct eqb xs → IsDistinct eqb (q ∷ xs)
unfolding IsDistinct
distinct_more q xs other distinct = (differ q xs other, distinct)

within_over : (n q r : ℕ) (c : Bool) (xs : List ℕ) → eqb r q ≡ c → q < n → (c || list_any (eqb r) xs) ≡ true → (list_any (eqb r) xs ≡ true → r < n) → r < n
within_over n q r true xs e less h rest = let same = eqb-true r q e in omega arith
within_over n q r false xs e less h rest = rest h

within_more : {n : ℕ} (q : ℕ) (xs : List ℕ) → q < n → ((r : ℕ) → list_any (eqb r) xs ≡ true → r < n) → (r : ℕ) → list_any (eqb r) (q ∷ xs) ≡ true → r < n
within_more {n} q xs less within r h = within_over n q r (eqb r q) xs refl less h (within r)

module _ (g : Grammar) (found : Partitions) (are : ArePartitions g found) (there : All (IsGivenThere g.sorts) found.given) where
  abbrev parts : List Partition
  parts = found.sorts

  module _ (s : ℕ) (known : s < length g.sorts) where
    visit_read : (x : ℕ) → visit_of parts s x ≡ slice_index (part g found are there s known).visit_of x
    visit_read x = ap (λ o. option_map_or (λ (q : Partition). slice_index q.visit_of x) o 0) (partition_of g found are there s known).1

    pub visits_read : visits_of parts s ≡ (part g found are there s known).visits
    visits_read = ap (λ o. option_map_or (λ (q : Partition). q.visits) o 0) (partition_of g found are there s known).1

    -- what is inherited in a visit comes before what is synthesised in it or later, and that before what is inherited later
    before_synthesised : (x y : ℕ) (from to : Attr) → slice_get (attrs_of_sort g.sorts s) x ≡ Some from → slice_get (attrs_of_sort g.sorts s) y ≡ Some to → from.inherited ≡ true → to.inherited ≡ false
        → visit_of parts s x ≤ visit_of parts s y → (Path (Before g found.given s) x y → ⊥) → ⊥
    before_synthesised x y from to x_is y_is one other le refuted =
        let hx = has_visit g found are there s known x from x_is (slice_get_within (attrs_of_sort g.sorts s) x from x_is) in
        let hy = has_visit g found are there s known y to y_is (slice_get_within (attrs_of_sort g.sorts s) y to y_is) in
        let vx = visit_read x in
        let vy = visit_read y in
        let sx = hx.visit_is in
        let sy = hy.visit_is in
        let even = hx.inherited_even one in
        let odd = hy.synthesised_odd other in
        as_table g found.given there s (λ r exact. refuted (sets_in_turn g found.given s r there exact hx.set hy.set x y (omega arith) hx.in_set hy.in_set))

    before_inherited : (x y : ℕ) (from to : Attr) → slice_get (attrs_of_sort g.sorts s) x ≡ Some from → slice_get (attrs_of_sort g.sorts s) y ≡ Some to → from.inherited ≡ false → to.inherited ≡ true
        → visit_of parts s x < visit_of parts s y → (Path (Before g found.given s) x y → ⊥) → ⊥
    before_inherited x y from to x_is y_is one other less refuted =
        let hx = has_visit g found are there s known x from x_is (slice_get_within (attrs_of_sort g.sorts s) x from x_is) in
        let hy = has_visit g found are there s known y to y_is (slice_get_within (attrs_of_sort g.sorts s) y to y_is) in
        let vx = visit_read x in
        let vy = visit_read y in
        let sx = hx.visit_is in
        let sy = hy.visit_is in
        as_table g found.given there s (λ r exact. refuted (sets_in_turn g found.given s r there exact hx.set hy.set x y (omega arith) hx.in_set hy.in_set))

  module _ (p : Production) (right : is_production_right g.sorts g.prods p ≡ true) where
    abbrev total : ℕ
    total = length (occurrences_of g.sorts p)

    abbrev Later : ℕ → ℕ → Type 0
    Later = ExtendedPath g found.given p

    lifted : (place : Place) → Contains (places_of g.sorts p) place → (x y : ℕ) → Path (Before g found.given place.sort) x y → Later (place.start + x) (place.start + y)
    lifted place at _ _ (step x y before) = step (place.start + x) (place.start + y) (inr (record { place = place; is_place = at; first = x; then = y; before = before; x_is = refl; y_is = refl }))
    lifted place at _ _ (onward x y z before rest) =
        onward (place.start + x) (place.start + y) (place.start + z)
        (inr (record { place = place; is_place = at; first = x; then = y; before = before; x_is = refl; y_is = refl })) (lifted place at y z rest)

    known_sorts : All (λ (place : Place). place.sort < length g.sorts) (places_of g.sorts p)
    known_sorts k d less = (places_placed g.sorts g.prods p right k d less).sort_there

    pub left_known : p.left < length g.sorts
    left_known = known_sorts 0 (left_place p) (omega arith)

    module _ (t : State) (kept : IsKept g.sorts parts p t) (ended : AllDone g.sorts parts p t) (v : ℕ)
        (entered : (w : ℕ) → 1 ≤ w → w ≤ v → All (Contains t.available) (values_of_visit g.sorts parts true p.left 0 w)) where
      abbrev Absent : ℕ → Type 0
      Absent o = is_among t.available (b.Value o) ≡ false

      -- an inherited attribute of the left side, of a later visit
      record IsLate (o : ℕ) : Type 0 where
        attr : Attr
        is_attr : slice_get (attrs_of_sort g.sorts p.left) o ≡ Some attr
        inherited : attr.inherited ≡ true
        later : v < visit_of parts p.left o

      -- the occurrences that keep one absent
      abbrev Back : ℕ → Type 0
      Back o = (q : ℕ) → q < total → Absent q → Later q o → ⊥

      by_eval : (o : ℕ) → o < total → is_defined (occurrences_of g.sorts p) o ≡ true → Absent o → Back o → ⊥
      by_eval o less defined absent back =
          let n = still_eval g.sorts parts p t kept ended o less defined absent in
          let within = All-contains (IsNeedWithin total) (extended_of g.sorts parts p) n.0 (extended_within g.sorts parts p (needs_within g.sorts g.prods p right)) n.1 in
          back n.0.first within.0 n.3
          (step n.0.first o (read_extended g found are there p known_sorts n.0.first o (subst (λ k. Contains (extended_of g.sorts parts p) (need n.0.first k)) n.2 n.1)))

      by_visit : (o s number : ℕ) (attr : Attr) → s < length (symbols_of g.sorts p) → o ≡ (symbol_at g.sorts p s).start + number
          → slice_get (attrs_of_sort g.sorts (symbol_at g.sorts p s).sort) number ≡ Some attr → attr.inherited ≡ false → Absent o → Back o → ⊥
      by_visit o s number attr s_there at is_attr synthesised absent back =
          let place = symbol_at g.sorts p s in
          let placed = places_placed g.sorts g.prods p right (suc s) (left_place p) (omega arith) in
          let within = places_within g.sorts p (suc s) (left_place p) (omega arith) in
          let known = placed.sort_there in
          let has = has_visit g found are there place.sort known number attr is_attr (slice_get_within (attrs_of_sort g.sorts place.sort) number attr is_attr) in
          let j = visit_of parts place.sort number in
          let first = has.first in
          let last = has.last in
          let read = visit_read place.sort known number in
          let count = visits_read place.sort known in
          let makes_it = subst (λ k. Contains (given_back g.sorts parts place s j) (b.Value k)) (sym at)
          (Contains-append_left (values_of_visit g.sorts parts false place.sort place.start j) (map (λ w. b.Kid s j w) (range_with_len (j + 1) (visits_of parts place.sort - j))) (b.Value (place.start + number))
          (in_values g.sorts parts false place.sort place.start j number attr is_attr synthesised refl)) in
          let left = still_visit g.sorts parts p t kept ended s j (b.Value o) s_there (omega arith) (omega arith) absent makes_it in
          let block = visit_blocked g.sorts parts p t kept ended s j s_there (omega arith) (omega arith) left in
          let is_place : Contains (places_of g.sorts p) place = (suc s, omega arith, get_or_default (symbols_of g.sorts p) s place (left_place p) s_there) in
          elim block.1.why [
            | inl tree ↦
                let before = placed.tree_before block.0 tree in
                let small = slice_get_within (attrs_of_sort g.sorts place.sort) number attr is_attr in
                let row : Contains (tree_needs g.sorts place) (need block.0 o) =
                subst (λ x. Contains (option_map_or (λ tr. map (need tr) (occurrences_at g.sorts place)) x []) (need block.0 o)) (sym tree)
                (member_map (need block.0) (occurrences_at g.sorts place) o (member_range place.start (length (attrs_of_sort g.sorts place.sort)) o (omega arith) (omega arith))) in
                back block.0 (omega arith) block.1.absent
                (step block.0 o (inl (Contains-append_right (flat_map equation_needs p.equations) (flat_map (tree_needs g.sorts) (places_of g.sorts p)) (need block.0 o)
                (member_flat (tree_needs g.sorts) (places_of g.sorts p) place (need block.0 o) is_place row))))
            | inr w ↦
                let small = slice_get_within (attrs_of_sort g.sorts place.sort) w.0 w.1 w.3 in
                let e = w.2 in
                before_synthesised place.sort known w.0 number w.1 attr w.3 is_attr w.4 synthesised w.5
                (λ path.
                back block.0 (omega arith) block.1.absent
                (subst (λ k. Later k o) (sym w.2) (subst (λ k. Later (place.start + w.0) k) (sym at) (lifted place is_place w.0 number path))))
          ]

      by_direction : (o s : ℕ) (x : Occurrence) (attr : Attr) (number : ℕ) (c : Bool) → attr.inherited ≡ c → o < total → is_defined (occurrences_of g.sorts p) o ≡ x.is_defined → x ≡ symbol_occurrence attr
          → s < length (symbols_of g.sorts p) → o ≡ (symbol_at g.sorts p s).start + number → slice_get (attrs_of_sort g.sorts (symbol_at g.sorts p s).sort) number ≡ Some attr → Absent o → Back o → ⊥
      by_direction o s x attr number true e less defined is s_there at is_attr absent back = by_eval o less (defined ∙ ap (λ (y : Occurrence). y.is_defined) is ∙ e) absent back
      by_direction o s x attr number false e less defined is s_there at is_attr absent back = by_visit o s number attr s_there at is_attr e absent back

      by_left : (o : ℕ) (x : Occurrence) (attr : Attr) (c : Bool) → attr.inherited ≡ c → o < total → is_defined (occurrences_of g.sorts p) o ≡ x.is_defined → x ≡ own_occurrence attr
          → slice_get (attrs_of_sort g.sorts p.left) o ≡ Some attr → Absent o → Back o → (IsLate o → ⊥) → ⊥
      by_left o x attr false e less defined is is_attr absent back late = by_eval o less (defined ∙ ap (λ (y : Occurrence). y.is_defined) is ∙ ap not e) absent back
      by_left o x attr true e less defined is is_attr absent back late =
          elim (cases_lt v (visit_of parts p.left o)) [
            | inl later ↦ late (record { attr = attr; is_attr = is_attr; inherited = e; later = later })
            | inr le ↦
                let has = has_visit g found are there p.left left_known o attr is_attr (slice_get_within (attrs_of_sort g.sorts p.left) o attr is_attr) in
                let first = has.first in
                let read = visit_read p.left left_known o in
                let w = visit_of parts p.left o in
                let zero_more : 0 + o ≡ o = omega arith in
                let m = subst (λ k. Contains (values_of_visit g.sorts parts true p.left 0 w) (b.Value k)) zero_more (in_values g.sorts parts true p.left 0 w o attr is_attr e refl) in
                not_absent g.sorts parts p t kept ended (b.Value o) (All-contains (Contains t.available) (values_of_visit g.sorts parts true p.left 0 w) (b.Value o) (entered w (omega arith) le) m) absent
          ]

      step_back : (o : ℕ) → o < total → Absent o → Back o → (IsLate o → ⊥) → ⊥
      step_back o less absent back late =
          let x = item_at (occurrences_of g.sorts p) o less in
          let defined = defined_at (occurrences_of g.sorts p) o x.0 less (sym x.1) in
          elim (stands_at g.sorts p o x.0 less) [
            | inl own ↦ by_left o x.0 own.attr own.attr.inherited refl less defined (sym x.1 ∙ own.is) own.is_attr absent back late
            | inr (inl is) ↦ by_eval o less (defined ∙ ap (λ (y : Occurrence). y.is_defined) (sym x.1) ∙ is) absent back
            | inr (inr h) ↦
                let s = h.is_place.0 in
                let s_there = h.is_place.1 in
                let e : symbol_at g.sorts p s ≡ h.place = get_or_default (symbols_of g.sorts p) s (left_place p) h.place s_there ∙ h.is_place.2 in
                by_direction o s x.0 h.attr h.number h.attr.inherited refl less defined (sym x.1 ∙ h.is) s_there
                (h.stands ∙ ap (λ (q : Place). q.start + h.number) (sym e)) (ap (λ (q : Place). slice_get (attrs_of_sort g.sorts q.sort) h.number) e ∙ h.is_attr) absent back
          ]

      module _ (acyclic : IsAcyclic Later) where
        all_later : (q o : ℕ) (stack : List ℕ) → Later q o → All (Later o) stack → All (Later q) (o ∷ stack)
        all_later q o stack path above zero d less = path
        all_later q o stack path above (suc k) d less = joined (Extended g found.given p) q o (get_or stack k d) path (above k d (omega arith))

        -- the occurrence, and those that it leads to: no more than there are
        trace : (n o target : ℕ) (stack : List ℕ) → o < total → Absent o → All (Later o) stack → IsDistinct eqb (o ∷ stack) → ((q : ℕ) → list_any (eqb q) (o ∷ stack) ≡ true → q < total)
            → total ≤ length stack + n → (o ≡ target) ⊎ Later o target → ((q : ℕ) → IsLate q → (q ≡ target) ⊎ Later q target → ⊥) → ⊥
        trace zero o target stack less absent above distinct within enough reach late =
            let few = length-le_from_distinct_below (o ∷ stack) total distinct within in omega arith
        trace (suc n) o target stack less absent above distinct within enough reach late =
            step_back o less absent
            (λ q q_less q_absent path.
            let later_all : All (Later q) (o ∷ stack) = all_later q o stack path above in
            trace n q target (o ∷ stack) q_less q_absent later_all
            (distinct_more q (o ∷ stack) (λ y m e. acyclic q (subst (Later q) (sym e) (All-contains (Later q) (o ∷ stack) y later_all m))) distinct)
            (within_more q (o ∷ stack) q_less within) (omega arith)
            (elim reach [ inl e ↦ inr (subst (Later q) e path) | inr on ↦ inr (joined (Extended g found.given p) q o target path on) ]) late)
            (λ is_late. late o is_late reach)

        -- a synthesised attribute of the left side is there at the end of its visit
        pub given_at_end : (o : ℕ) (attr : Attr) → slice_get (attrs_of_sort g.sorts p.left) o ≡ Some attr → attr.inherited ≡ false → visit_of parts p.left o ≡ v → Contains t.available (b.Value o)
        unfolding IsDistinct
        given_at_end o attr is_attr synthesised visit =
            let within = places_within g.sorts p 0 (left_place p) (omega arith) in
            let small = slice_get_within (attrs_of_sort g.sorts p.left) o attr is_attr in
            let less : o < total = omega arith in
            contained t.available (b.Value o)
            (true_from_ne_false (is_among t.available (b.Value o))
            (λ absent.
            trace total o o [] less absent (λ k d l. absurd (omega arith)) (tt, tt) (within_more o [] less (λ q m. absurd (true≢false (sym m)))) (omega arith) (inl refl)
            (λ q is_late reach.
            before_inherited p.left left_known o q attr is_late.attr is_attr is_late.is_attr synthesised is_late.inherited (let later = is_late.later in omega arith)
            (λ path.
            let zero_o : 0 + o ≡ o = omega arith in
            let zero_q : 0 + q ≡ q = omega arith in
            let on : Later o q = subst (λ k. Later k q) zero_o (subst (λ k. Later (0 + o) k) zero_q (lifted (left_place p) (0, omega arith, refl) o q path)) in
            elim reach [
              | inl e ↦ acyclic o (subst (Later o) e on)
              | inr back ↦ acyclic o (joined (Extended g found.given p) o q o on back)
            ]))))

        -- at the end of the last visit nothing is absent
        pub none_absent : visits_of parts p.left ≤ v → (o : ℕ) → o < total → Absent o → ⊥
        unfolding IsDistinct
        none_absent last o less absent =
            trace total o o [] less absent (λ k d l. absurd (omega arith)) (tt, tt) (within_more o [] less (λ q m. absurd (true≢false (sym m)))) (omega arith) (inl refl)
            (λ q is_late reach.
            let has = has_visit g found are there p.left left_known q is_late.attr is_late.is_attr (slice_get_within (attrs_of_sort g.sorts p.left) q is_late.attr is_late.is_attr) in
            let last_visit = has.last in
            let read = visit_read p.left left_known q in
            let count = visits_read p.left left_known in
            let later = is_late.later in
            absurd (omega arith))

        pub no_eval_left : visits_of parts p.left ≤ v → (o : ℕ) → Contains t.left (a.Eval o) → ⊥
        no_eval_left last o left =
            let y = awaits_absent g.sorts parts p t kept ended (a.Eval o) left in
            let n = member_of_map (λ (m : Need). b.Value m.first) (filter (λ (m : Need). m.then == o) (extended_of g.sorts parts p)) y.0 y.1 in
            let passes = member_of_filter (λ (m : Need). m.then == o) (extended_of g.sorts parts p) n.0 n.1 in
            let within = All-contains (IsNeedWithin total) (extended_of g.sorts parts p) n.0 (extended_within g.sorts parts p (needs_within g.sorts g.prods p right)) passes.0 in
            none_absent last n.0.first within.0 (subst (λ z. is_among t.available z ≡ false) (sym n.2) y.2)

        pub no_visit_left : visits_of parts p.left ≤ v → (s j : ℕ) → s < length (symbols_of g.sorts p) → 1 ≤ j → j ≤ visits_of parts (symbol_at g.sorts p s).sort → Contains t.left (a.Visit s j) → ⊥
        no_visit_left last s j s_there one le left =
            let place = symbol_at g.sorts p s in
            let placed = places_placed g.sorts g.prods p right (suc s) (left_place p) (omega arith) in
            let within = places_within g.sorts p (suc s) (left_place p) (omega arith) in
            let block = visit_blocked g.sorts parts p t kept ended s j s_there one le left in
            elim block.1.why [
              | inl tree ↦
                  let before = placed.tree_before block.0 tree in
                  none_absent last block.0 (omega arith) block.1.absent
              | inr w ↦
                  let small = slice_get_within (attrs_of_sort g.sorts place.sort) w.0 w.1 w.3 in
                  let e = w.2 in
                  none_absent last block.0 (omega arith) block.1.absent
            ]
