-- Walks that make each item once: at the end each action holds with what was made.
use Rattle.std.proofs.Common.{◌≡◌, ℕ, ◌-◌, ◌≤◌, true, cond, List, [], ◌∷◌, ◌++◌, map, length, Contains, Option, Some, inl, inr, refl, sym, ap, ◌∙◌, subst, arith, append_assoc}
use Rattle.std.specs.Prelude.{flat_map, ⊤}
use Rattle.std.specs.List.{range_with_len}
use Rattle.std.proofs.lemmas.Bool.{cases_order}
use Rattle.std.proofs.lemmas.Option.{same_Some}
use Rattle.std.proofs.lemmas.List.Elements.{All-contains, Contains-append_left, Contains-append_right, Contains-append_cases}
use Rattle.lrc_base.specs.declared.grammar.Sort.{Sort}
use Rattle.lrc_base.specs.declared.grammar.Production.{Production}
use Rattle.lrc_order_meaning.specs.declared.Partition.{Partition}
use Rattle.lrc_plan_meaning.specs.declared.Action.{Action}
use Rattle.lrc_plan_meaning.specs.declared.Bound.{Bound}
use Rattle.lrc_plan_meaning.specs.Items.{same_item, visits_of, values_of_visit, needs, makes}
use Rattle.lrc_plan_meaning.specs.Sequences.{segment}
use Rattle.lrc_plan_meaning.specs.Bindings.{gained, binding as items_between}
use Rattle.lrc_plan_meaning.specs.Sound.{AreReady, handed_in, IsSound}
use Rattle.lrc_plan_meaning.proofs.ItemLemmas.{item_itself}
use Rattle.lrc_visit_meaning.specs.Values.{Datum}
use Rattle.lrc_visit_meaning.specs.Visits.{Held, Given, Walked, holding, walk}
use Rattle.lrc_order_meaning.proofs.MemberLemmas.{member_cases, no_member, member_of_flat, member_of_range}
use Rattle.lrc_plan.proofs.ListLemmas.{map_agree}
use Rattle.lrc_plan.proofs.DistinctLemmas.{Distinct, distinct_pairs, distinct_right, distinct_left, apart, apart_by_number, distinct_at}
use Rattle.lrc_laws.proofs.FuelLemmas.{bound_by, walked_on}
use Rattle.lrc_laws.proofs.HeldLemmas.{Agree, agree_left, agree_right, agree_part, holding_other, IsMade, ReadsNeeds, AreMade}
use Rattle.lrc_laws.proofs.AlikeLemmas.{bound_gained}

-- distinct items hold what they were given
pub holding_gives : (xs : List Bound) (ds : List Datum) (m : Held) → Distinct xs → length ds ≡ length xs → map (holding xs ds m) xs ≡ ds
holding_gives [] [] m h l = refl
holding_gives [] (d ∷ ds) m h l = absurd (omega arith)
holding_gives (x ∷ xs) [] m h l = absurd (omega arith)
holding_gives (x ∷ xs) (d ∷ ds) m h l =
    let next : Held = λ y. cond (same_item x y) d (m y) in
    ap (λ e. e ∷ map (holding xs ds next) xs) (holding_other xs ds next x h.0 ∙ ap (λ b. cond b d (m x)) (item_itself x))
    ∙ ap (λ es. d ∷ es) (holding_gives xs ds next h.1 (omega arith))

module _ (sorts : List Sort) (parts : List Partition) (p : Production) where
  -- each action makes items that are not available before
  abbrev pub AreFresh : List Bound → List Action → Type 0
  AreFresh available [] = ⊤
  AreFresh available (x ∷ xs) =
      ((y : Bound) → Contains (makes sorts parts p x) y → ¬ Contains available y) × Distinct (makes sorts parts p x) × AreFresh (available ++ makes sorts parts p x) xs

  pub fresh_from : (xs : List Action) (available : List Bound) → Distinct (flat_map (makes sorts parts p) xs)
      → ((y : Bound) → Contains (flat_map (makes sorts parts p) xs) y → ¬ Contains available y) → AreFresh available xs
  fresh_from [] available h new = tt
  fresh_from (x ∷ xs) available h new =
      let here = makes sorts parts p x in
      let rest = flat_map (makes sorts parts p) xs in (
        λ y c. new y (Contains-append_left here rest y c),
        distinct_left here rest h,
        fresh_from xs (available ++ here) (distinct_right here rest h)
            (λ y c d.
            elim (Contains-append_cases available here y d) [
              | inl old ↦ new y (Contains-append_right here rest y c) old
              | inr made ↦ apart here rest h y made c
            ]),
      )

  -- what an action of a segment needs is among what is available or made
  pub ready_needs : (xs : List Action) (available : List Bound) → AreReady sorts parts p available xs → (x : Action) → Contains xs x
      → (y : Bound) → Contains (needs sorts parts p x) y → Contains (available ++ flat_map (makes sorts parts p) xs) y
  ready_needs [] available ready x c y d = absurd (no_member x c)
  ready_needs (z ∷ zs) available ready x c y d =
      elim (member_cases z zs x c) [
        | inl e ↦
            Contains-append_left available (flat_map (makes sorts parts p) (z ∷ zs)) y
            (All-contains (Contains available) (needs sorts parts p z) y ready.0 (subst (λ w. Contains (needs sorts parts p w) y) (sym e) d))
        | inr later ↦
            subst (λ ys. Contains ys y) (append_assoc available (makes sorts parts p z) (flat_map (makes sorts parts p) zs))
            (ready_needs zs (available ++ makes sorts parts p z) ready.1 x later y d)
      ]

  module _ (step : Held → Action → Option Given) (reads : ReadsNeeds sorts parts p step) where
    abbrev pub GivesAll : Type 0
    GivesAll = (m : Held) (x : Action) (r : Given) → step m x ≡ Some r → length r.made ≡ length (makes sorts parts p x)

    -- what is made on one is made on another that agrees with it
    pub made_on : (m n : Held) (x : Action) → Agree (needs sorts parts p x) n m → Agree (makes sorts parts p x) n m → IsMade sorts parts p step m x → IsMade sorts parts p step n x
    made_on m n x needed made h = record {
      given = h.given;
      is_given = reads n m x needed ∙ h.is_given;
      made = h.made ∙ sym (map_agree n m (makes sorts parts p x) made);
    }

    -- A walk keeps what was available, and at its end each of its actions is made.
    pub walk_makes : GivesAll → (xs : List Action) (w v : Walked) (available : List Bound) → walk (makes sorts parts p) step xs w ≡ Some v → AreReady sorts parts p available xs → AreFresh available xs
        → Agree available v.held w.held × AreMade sorts parts p step v.held xs
    walk_makes all [] w v available e ready fresh =
        let same = same_Some w v e in
        (λ x c. ap (λ (u : Walked). u.held x) (sym same), λ x c. absurd (no_member x c))
    walk_makes all (x ∷ xs) w v available e ready fresh =
        let found = bound_by _ (step w.held x) v e in
        let r = found.0 in
        let next = walked_on (makes sorts parts p) x w r in
        let here = makes sorts parts p x in
        let rest = walk_makes all xs next v (available ++ here) found.2 ready.1 fresh.2 in
        let kept : Agree available v.held w.held =
        λ y c. agree_left available here v.held next.held rest.0 y c ∙ holding_other here r.made w.held y (λ d. fresh.0 y d c) in
        let given : map v.held here ≡ r.made =
        map_agree v.held next.held here (agree_right available here v.held next.held rest.0) ∙ holding_gives here r.made w.held fresh.1 (all w.held x r found.1) in (
          kept,
          λ y c.
              elim (member_cases x xs y c) [
                | inl same ↦
                    subst (λ z. IsMade sorts parts p step v.held z) same
                    (record {
                      given = r;
                      is_given = reads v.held w.held x (agree_part (needs sorts parts p x) available v.held w.held ready.0 kept) ∙ found.1;
                      made = sym given;
                    })
                | inr later ↦ rest.1 y later
              ],
        )

  module _ (sound : IsSound sorts parts p) where
    abbrev gained_in : ℕ → List Bound
    gained_in v = gained sorts parts p v (segment sorts parts p v)

    all_distinct : Distinct (flat_map gained_in (range_with_len 1 (visits_of parts p.left)))
    all_distinct = distinct_pairs (flat_map gained_in (range_with_len 1 (visits_of parts p.left))) sound.fresh

    -- an item becomes available in one visit alone
    pub gained_once : (u v : ℕ) → 1 ≤ u → u ≤ visits_of parts p.left → 1 ≤ v → v ≤ visits_of parts p.left → (x : Bound) → Contains (gained_in u) x → Contains (gained_in v) x → u ≡ v
    gained_once u v lu hu lv hv x c d =
        elim (cases_order u v) [
          | inl e ↦ e
          | inr other ↦
              elim other [
                | inl below ↦ absurd (apart_by_number gained_in 1 (visits_of parts p.left) u v all_distinct lu below (omega arith) x c d)
                | inr above ↦ absurd (apart_by_number gained_in 1 (visits_of parts p.left) v u all_distinct lv above (omega arith) x d c)
              ]
        ]

    pub segment_fresh : (v : ℕ) → 1 ≤ v → v ≤ visits_of parts p.left → AreFresh (handed_in sorts parts p v) (segment sorts parts p v)
    segment_fresh v first last =
        let values = values_of_visit sorts parts true p.left 0 v in
        let made = flat_map (makes sorts parts p) (segment sorts parts p v) in
        let here : Distinct (values ++ made) = distinct_at gained_in 1 (visits_of parts p.left) v all_distinct first (omega arith) in
        fresh_from (segment sorts parts p v) (handed_in sorts parts p v) (distinct_right values made here)
        (λ y c d.
        elim (Contains-append_cases values (flat_map (λ u. items_between sorts parts p u v) (range_with_len 1 (v - 1))) y d) [
          | inl own ↦ apart values made here y own c
          | inr handed ↦
              let found = member_of_flat (λ u. items_between sorts parts p u v) (range_with_len 1 (v - 1)) y handed in
              let u = found.0 in
              let bounds = member_of_range 1 (v - 1) u found.1 in
              let low = bounds.0 in
              let high = bounds.1 in
              let same = gained_once u v low (omega (arith, low, high, last)) first last y (bound_gained sorts parts p u v y found.2) (Contains-append_right values made y c) in
              absurd (omega (arith, low, high, same))
        ])
