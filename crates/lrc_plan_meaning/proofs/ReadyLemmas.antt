-- Each action of a segment finds what it needs among what its visit is called with and what was made before it.
use Rattle.std.proofs.Common.{◌≡◌, ℕ, zero, suc, ◌+◌, ◌-◌, ◌<◌, ◌≤◌, Bool, true, false, ◌&&◌, List, [], ◌∷◌, ◌++◌, length, map, get_or, All, Contains, ◌==◌, Option, Some, None, inl, inr, refl, sym, ap, ◌∙◌, subst, append_assoc, append-nil, length-append, arith}
use Rattle.std.specs.Prelude.{filter, flat_map}
use Rattle.std.specs.Option.{option_map}
use Rattle.std.specs.List.{list_all, range_with_len}
use Rattle.std.proofs.lemmas.Bool.{and_parts, cases_eq}
use Rattle.std.proofs.lemmas.List.Concat.{flat_map-append}
use Rattle.std.proofs.lemmas.List.{get_or_append_left, map-append, get_or_default}
use Rattle.std.proofs.lemmas.List.Elements.{filter-append, All-contains, filter_passes, Contains-append_left, Contains-append_right, Contains-append_cases}
use Rattle.std.proofs.Math.Seq.{get_or-append_seam}
use Rattle.lrc_base.specs.declared.grammar.Sort.{Sort}
use Rattle.lrc_base.specs.declared.grammar.Production.{Production}
use Rattle.lrc_order_meaning.specs.declared.Partition.{Partition}
use Rattle.lrc_order_meaning.specs.declared.Need.{Need}
use Rattle.lrc_order_meaning.specs.Needs.{needs_of, equation_needs, tree_needs, places_of}
use Rattle.lrc_plan_meaning.specs.declared.Action.{Action}
use Rattle.lrc_plan_meaning.specs.declared.Action.TheVariants as a
use Rattle.lrc_plan_meaning.specs.declared.Bound.{Bound}
use Rattle.lrc_plan_meaning.specs.declared.Bound.TheVariants as item
use Rattle.lrc_plan_meaning.specs.Items.{is_among, visits_of, values_of_visit, needs, makes, awaits, firsts_of, ordered_at}
use Rattle.lrc_plan_meaning.specs.Sequences.{State, pick, is_ready, did, greedy, entered, actions_of, segments_from, segments_of, segment}
use Rattle.lrc_plan_meaning.specs.Bindings.{items_of, gained, used, binding}
use Rattle.lrc_plan_meaning.specs.Sound.{handed_in, AreReady}
use Rattle.lrc_plan_meaning.proofs.ItemLemmas.{among, contained}
use Rattle.lrc_plan_meaning.proofs.GreedyLemmas.{greedy_keeps, pick_over, segments_are_of, segments_count}
use Rattle.lrc_order_meaning.proofs.MemberLemmas.{member_flat, member_of_flat, member_filter, member_range}

all_contained : (available xs : List Bound) → list_all (is_among available) xs ≡ true → All (Contains available) xs
all_contained available [] h k d less = absurd (omega arith)
all_contained available (x ∷ xs) h zero d less = contained available x (and_parts (is_among available x) (list_all (is_among available) xs) h).0
all_contained available (x ∷ xs) h (suc k) d less = all_contained available xs (and_parts (is_among available x) (list_all (is_among available) xs) h).1 k d (omega arith)

-- the first that passes does
abbrev pub Passes : (Action → Bool) → Option (Action × List Action) → Type 0
Passes test None = Unit {0}
Passes test (Some found) = test found.0 ≡ true

passes_behind : (test : Action → Bool) (x : Action) (o : Option (Action × List Action)) → Passes test o → Passes test (option_map (λ found. (found.0, x ∷ found.1)) o)
passes_behind test x None h = tt
passes_behind test x (Some found) h = h

picked_passes : (test : Action → Bool) (xs : List Action) → Passes test (pick test xs)
picked_passes test [] = tt
picked_passes test (x ∷ xs) =
    pick_over test x xs (Passes test) (λ e. e) (λ e o is. passes_behind test x o (subst (Passes test) is (picked_passes test xs)))

firsts_front : (P : Bound → Type 0) (xs ys : List Need) (o : ℕ) → All P (firsts_of (xs ++ ys) o) → All P (firsts_of xs o)
firsts_front P xs ys o all k d less =
    let both : firsts_of (xs ++ ys) o ≡ firsts_of xs o ++ firsts_of ys o =
    ap (map (λ (n : Need). item.Value n.first)) (filter-append (λ (n : Need). n.then == o) xs ys)
    ∙ map-append (λ (n : Need). item.Value n.first) (filter (λ (n : Need). n.then == o) xs) (filter (λ (n : Need). n.then == o) ys) in
    let more = length-append (firsts_of xs o) (firsts_of ys o) in
    subst P (get_or_append_left (firsts_of xs o) (firsts_of ys o) d k less) (subst (λ zs. All P zs) both all k d (omega arith))

module _ (sorts : List Sort) (parts : List Partition) (p : Production) where
  -- an action awaits what it needs
  needs_awaited : (available : List Bound) (x : Action) → All (Contains available) (awaits sorts parts p x) → All (Contains available) (needs sorts parts p x)
  needs_awaited available (a.Visit s v) all = all
  needs_awaited available (a.Eval o) all =
      firsts_front (Contains available) (flat_map equation_needs p.equations) (flat_map (tree_needs sorts) (places_of sorts p)) o
      (firsts_front (Contains available) (needs_of sorts p) (flat_map (ordered_at sorts parts) (places_of sorts p)) o all)

  abbrev pub made_by : List Action → List Bound
  made_by xs = flat_map (makes sorts parts p) xs

  made_more : (A : List Bound) (xs : List Action) (x : Action) → (A ++ made_by xs) ++ makes sorts parts p x ≡ A ++ made_by (xs ++ x ∷ [])
  made_more A xs x =
      append_assoc A (made_by xs) (makes sorts parts p x)
      ∙ ap (λ ys. A ++ ys) (sym (flat_map-append (makes sorts parts p) xs (x ∷ []) ∙ ap (λ ys. made_by xs ++ ys) (append-nil (makes sorts parts p x))))

  -- one action more at the end
  ready_more : (A : List Bound) (xs : List Action) (x : Action) → AreReady sorts parts p A xs → All (Contains (A ++ made_by xs)) (needs sorts parts p x) → AreReady sorts parts p A (xs ++ x ∷ [])
  ready_more A [] x ready needed = (subst (λ ys. All (Contains ys) (needs sorts parts p x)) (append-nil A) needed, tt)
  ready_more A (y ∷ ys) x ready needed = (
    ready.0,
    ready_more (A ++ makes sorts parts p y) ys x ready.1 (subst (λ zs. All (Contains zs) (needs sorts parts p x)) (sym (append_assoc A (makes sorts parts p y) (made_by ys))) needed),
  )

  -- with other items at the start, among which is all that is needed of the old ones
  ready_with : (A B : List Bound) (xs : List Action) → AreReady sorts parts p A xs → ((y : Bound) → Contains A y → Contains (flat_map (needs sorts parts p) xs) y → Contains B y) → AreReady sorts parts p B xs
  ready_with A B [] ready enough = tt
  ready_with A B (x ∷ xs) ready enough = (
    λ k d less.
        let y = get_or (needs sorts parts p x) k d in
        enough y (ready.0 k d less) (Contains-append_left (needs sorts parts p x) (flat_map (needs sorts parts p) xs) y (k, less, get_or_default (needs sorts parts p x) k y d less)),
    ready_with (A ++ makes sorts parts p x) (B ++ makes sorts parts p x) xs ready.1
        (λ y m used.
        elim (Contains-append_cases A (makes sorts parts p x) y m) [
          | inl old ↦ Contains-append_left B (makes sorts parts p x) y (enough y old (Contains-append_right (needs sorts parts p x) (flat_map (needs sorts parts p) xs) y used))
          | inr new ↦ Contains-append_right B (makes sorts parts p x) y new
        ]),
  )

  -- while a segment runs, what is available is what was at its start and what its actions made
  pub record RunsFrom (A : List Bound) (s : State) : Type 0 where
    pub available : s.available ≡ A ++ made_by s.done
    pub ready : AreReady sorts parts p A s.done

  pub runs_on : (A : List Bound) (s : State) (found : Action × List Action) → pick (is_ready sorts parts p s.available) s.left ≡ Some found → RunsFrom A s → RunsFrom A (did sorts parts p s found)
  runs_on A s found e runs =
      let test : is_ready sorts parts p s.available found.0 ≡ true = subst (Passes (is_ready sorts parts p s.available)) e (picked_passes (is_ready sorts parts p s.available) s.left) in
      let needed = needs_awaited s.available found.0 (all_contained s.available (awaits sorts parts p found.0) test) in
      record {
        available = ap (λ xs. xs ++ makes sorts parts p found.0) runs.available ∙ made_more A s.done found.0;
        ready = ready_more A s.done found.0 runs.ready (subst (λ xs. All (Contains xs) (needs sorts parts p found.0)) runs.available needed);
      }

  abbrev pub count : ℕ
  count = visits_of parts p.left

  abbrev pub entering : ℕ → List Bound
  entering v = values_of_visit sorts parts true p.left 0 v

  -- it became available in an earlier visit
  pub record IsEarlier (v : ℕ) (y : Bound) : Type 0 where
    pub visit : ℕ
    pub first : 1 ≤ visit
    pub before : visit < v
    pub gained_there : Contains (gained sorts parts p visit (segment sorts parts p visit)) y

  pub segment_at : (pre rest : List (List Action)) (now : List Action) (v : ℕ) → segments_of sorts parts p ≡ pre ++ now ∷ rest → length pre + 1 ≡ v → segment sorts parts p v ≡ now
  segment_at pre rest now v are size =
      let e : v - 1 ≡ length pre = omega arith in
      ap (λ n. get_or (segments_of sorts parts p) n []) e ∙ ap (λ (xs : List (List Action)). get_or xs (length pre) []) are ∙ get_or-append_seam pre now rest []

  -- what holds at the start of a segment
  record StartsAt (v : ℕ) (A : List Bound) : Type 0 where
    ready : AreReady sorts parts p (A ++ entering v) (segment sorts parts p v)
    earlier : (y : Bound) → Contains A y → IsEarlier v y

  starts_at : (n v : ℕ) (s : State) (pre : List (List Action)) → segments_of sorts parts p ≡ pre ++ segments_from sorts parts p n v s → length pre + 1 ≡ v
      → ((y : Bound) → Contains s.available y → IsEarlier v y) → (w : ℕ) → v ≤ w → w < v + n → (A : List Bound) × StartsAt w A
  starts_at zero v s pre are size earlier w low high = absurd (omega arith)
  starts_at (suc n) v s pre are size earlier w low high =
      let A = s.available ++ entering v in
      let t = greedy sorts parts p (length s.left) (entered sorts parts p v s) in
      let runs = greedy_keeps sorts parts p (RunsFrom A) (runs_on A) (length s.left) (entered sorts parts p v s) (record { available = sym (append-nil A); ready = tt }) in
      let now : segment sorts parts p v ≡ t.done = segment_at pre (segments_from sorts parts p n (v + 1) t) t.done v are size in
      elim (cases_eq v w) [
        | inl e ↦
            subst (λ k. (B : List Bound) × StartsAt k B) e
            (s.available, record { ready = subst (AreReady sorts parts p A) (sym now) runs.ready; earlier = earlier })
        | inr ne ↦
            let longer = length-append pre (t.done ∷ []) in
            starts_at n (v + 1) t (pre ++ t.done ∷ []) (are ∙ sym (append_assoc pre (t.done ∷ []) (segments_from sorts parts p n (v + 1) t))) (omega arith)
            (λ y m.
            elim (Contains-append_cases A (made_by t.done) y (subst (λ xs. Contains xs y) runs.available m)) [
              | inl old ↦
                  elim (Contains-append_cases s.available (entering v) y old) [
                    | inl older ↦
                        let w0 = earlier y older in
                        let l = w0.before in record { visit = w0.visit; first = w0.first; before = omega arith; gained_there = w0.gained_there }
                    | inr here ↦
                        record { visit = v; first = omega arith; before = omega arith; gained_there = Contains-append_left (entering v) (made_by (segment sorts parts p v)) y here }
                  ]
              | inr made ↦
                  record {
                    visit = v;
                    first = omega arith;
                    before = omega arith;
                    gained_there = Contains-append_right (entering v) (made_by (segment sorts parts p v)) y (subst (λ xs. Contains (made_by xs) y) (sym now) made);
                  }
            ]) w (omega arith) (omega arith)
      ]

  module _ (listed : All (λ x. All (Contains (items_of sorts parts p)) (needs sorts parts p x)) (actions_of sorts parts p)) where
    used_listed : (w : ℕ) → 1 ≤ w → w ≤ count → (y : Bound) → Contains (flat_map (needs sorts parts p) (segment sorts parts p w)) y → Contains (items_of sorts parts p) y
    used_listed w one le y m =
        let size : length (segments_of sorts parts p) ≡ count = segments_count sorts parts p count 1 (record { done = []; left = actions_of sorts parts p; available = [] }) in
        let each = segments_are_of sorts parts p (λ x. All (Contains (items_of sorts parts p)) (needs sorts parts p x)) listed (w - 1) [] (omega arith) in
        let from = member_of_flat (needs sorts parts p) (segment sorts parts p w) y m in
        All-contains (Contains (items_of sorts parts p)) (needs sorts parts p from.0) y
        (All-contains (λ x. All (Contains (items_of sorts parts p)) (needs sorts parts p x)) (segment sorts parts p w) from.0 each from.1) from.2

    pub ready : (v : ℕ) → 1 ≤ v → v ≤ count → AreReady sorts parts p (handed_in sorts parts p v) (segment sorts parts p v)
    ready v one le =
        let starts = starts_at count 1 (record { done = []; left = actions_of sorts parts p; available = [] }) [] refl refl (λ y m. let l = m.1 in absurd (omega arith)) v one (omega arith) in
        ready_with (starts.0 ++ entering v) (handed_in sorts parts p v) (segment sorts parts p v) starts.1.ready
        (λ y m needed.
        elim (Contains-append_cases starts.0 (entering v) y m) [
          | inr here ↦ Contains-append_left (entering v) (flat_map (λ u. binding sorts parts p u v) (range_with_len 1 (v - 1))) y here
          | inl old ↦
              let w = starts.1.earlier y old in
              let first = w.first in
              let before = w.before in
              let from = gained sorts parts p w.visit (segment sorts parts p w.visit) in
              let to = used sorts parts p v (segment sorts parts p v) in
              let in_from : is_among from y ≡ true = among from y w.gained_there in
              let in_to : is_among to y ≡ true =
              among to y (Contains-append_left (flat_map (needs sorts parts p) (segment sorts parts p v)) (values_of_visit sorts parts false p.left 0 v) y needed) in
              Contains-append_right (entering v) (flat_map (λ u. binding sorts parts p u v) (range_with_len 1 (v - 1))) y
              (member_flat (λ u. binding sorts parts p u v) (range_with_len 1 (v - 1)) w.visit y (member_range 1 (v - 1) w.visit first (omega arith))
              (member_filter (λ x. is_among from x && is_among to x) (items_of sorts parts p) y (used_listed v one le y needed) (rw (in_from, in_to) refl)))
        ])

  -- what is handed on became available in the visit
  pub hands_on : (v w : ℕ) → All (Contains (handed_in sorts parts p v ++ made_by (segment sorts parts p v))) (binding sorts parts p v w)
  hands_on v w k d less =
      let from = gained sorts parts p v (segment sorts parts p v) in
      let to = used sorts parts p w (segment sorts parts p w) in
      let y = get_or (binding sorts parts p v w) k d in
      let passes = filter_passes (λ x. is_among from x && is_among to x) (items_of sorts parts p) k d less in
      let m = contained from y (and_parts (is_among from y) (is_among to y) passes).0 in
      elim (Contains-append_cases (entering v) (made_by (segment sorts parts p v)) y m) [
        | inl here ↦
            Contains-append_left (handed_in sorts parts p v) (made_by (segment sorts parts p v)) y
            (Contains-append_left (entering v) (flat_map (λ u. binding sorts parts p u v) (range_with_len 1 (v - 1))) y here)
        | inr made ↦ Contains-append_right (handed_in sorts parts p v) (made_by (segment sorts parts p v)) y made
      ]
