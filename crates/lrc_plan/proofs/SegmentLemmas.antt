-- One segment more of a production.
use Rattle.std.proofs.Common.{◌≡◌, ℕ, suc, ◌+◌, ◌-◌, ◌<◌, ◌≤◌, true, IsTrue, List, [], ◌∷◌, ◌++◌, length, map, get_or, All, Contains, ◌⊎◌, ◌↔◌, inl, inr, refl, sym, ap, ◌∙◌, subst, append_assoc, append-nil, arith}
use Rattle.std.proofs.lemmas.List.Elements.{Contains-append_left, Contains-append_right, Contains-append_cases, All-map}
use Rattle.lrc_base.specs.declared.grammar.Sort.{Sort}
use Rattle.lrc_base.specs.declared.grammar.Production.{Production}
use Rattle.lrc_order_meaning.specs.declared.Partition.{Partition}
use Rattle.lrc_plan_meaning.specs.declared.Bound.{Bound}
use Rattle.lrc_plan_meaning.specs.declared.Step.{Step}
use Rattle.lrc_plan_meaning.specs.Items.{visits_of, values_of_visit}
use Rattle.lrc_plan_meaning.specs.Plans.{step_of}
use Rattle.lrc_plan_meaning.specs.Sequences.{State, greedy, entered, actions_of, segments_from, segments_of}
use Rattle.lrc_plan.specs.declared.waiting.Waiting.{Waiting}
use Rattle.lrc_plan.specs.ItemSets.{Flags, holds, HasRoom}
use Rattle.lrc_plan.specs.Waiting.{waiting_of}
use Rattle.lrc_plan.specs.Running.{unchecked, IsChecked, IsLeft, StandsFor, StandsAt, FoundSo}
use Rattle.lrc_plan.proofs.ReadyLemmas.{still_checked}
use Rattle.std.proofs.lemmas.Simd.{map-map}

-- with more items available, and room for as many
pub left_grown : (f g : Flags) (left : List Waiting) → IsLeft f left → ((x : Bound) → IsTrue (holds f x) → IsTrue (holds g x)) → ((x : Bound) → HasRoom f x → HasRoom g x) → IsLeft g left
left_grown f g left is grown room = record {
  checked = λ k d less. still_checked f g grown (get_or left k d) (is.checked k d less);
  room = λ k d less j x l. room (get_or (get_or left k d).step.makes j x) (is.room k d less j x l);
}

module _ (sorts : List Sort) (parts : List Partition) (p : Production) where
  -- at the start no action was looked at, and nothing is available
  pub starts_left : (f : Flags) (left : List Waiting) → left ≡ map (waiting_of sorts parts p) (actions_of sorts parts p)
      → All (λ (w : Waiting). All (HasRoom f) w.step.makes) left → IsLeft f left
  starts_left f left is room = record {
    checked = subst (All (IsChecked f)) (sym is) (All-map (IsChecked f) (waiting_of sorts parts p) (actions_of sorts parts p) (λ k d less. record { within = omega arith; held = refl }));
    room = room;
  }

  pub starts : (f : Flags) (left : List Waiting) (segments : List (List Step)) → left ≡ map (waiting_of sorts parts p) (actions_of sorts parts p) → ((x : Bound) → ¬ IsTrue (holds f x))
      → segments ≡ [] → FoundSo sorts parts p left f segments 0
  starts f left segments is empty none = record {
    state = record { done = []; left = actions_of sorts parts p; available = [] };
    stands = record {
      left_is = ap (map unchecked) is ∙ map-map unchecked (waiting_of sorts parts p) (actions_of sorts parts p);
      available_is = λ x. (λ h. absurd (empty x h), λ m. let l = m.1 in absurd (omega arith));
    };
    rest =
        let e : visits_of parts p.left - 0 ≡ visits_of parts p.left = omega arith in
        rw (none, e) refl;
  }

  -- the values of the visit were put in
  pub entered_stands : (f g : Flags) (left : List Waiting) (t : State) (v : ℕ) → StandsAt sorts parts p left f t
      → ((x : Bound) → IsTrue (holds g x) ↔ (IsTrue (holds f x) ⊎ Contains (values_of_visit sorts parts true p.left 0 v) x))
      → StandsFor sorts parts p left g [] (entered sorts parts p v t)
  entered_stands f g left t v stands grown = record {
    left_is = stands.left_is;
    available_is = λ x. (
      λ h.
          elim ((grown x).0 h) [
            | inl old ↦ Contains-append_left t.available (values_of_visit sorts parts true p.left 0 v) x ((stands.available_is x).0 old)
            | inr m ↦ Contains-append_right t.available (values_of_visit sorts parts true p.left 0 v) x m
          ],
      λ m.
          (grown x).1
          (elim (Contains-append_cases t.available (values_of_visit sorts parts true p.left 0 v) x m) [
            | inl old ↦ inl ((stands.available_is x).1 old)
            | inr new ↦ inr new
          ]),
    );
    steps_are = refl;
  }

  pub found_more : (f g h : Flags) (left now : List Waiting) (segments all : List (List Step)) (steps : List Step) (earlier v : ℕ) → earlier < visits_of parts p.left → v ≡ earlier + 1
      → (found : FoundSo sorts parts p left f segments earlier)
      → ((x : Bound) → IsTrue (holds g x) ↔ (IsTrue (holds f x) ⊎ Contains (values_of_visit sorts parts true p.left 0 v) x))
      → ((s : State) → StandsFor sorts parts p left g [] s → StandsFor sorts parts p now h steps (greedy sorts parts p (length s.left) s))
      → all ≡ segments ++ steps ∷ [] → FoundSo sorts parts p now h all (earlier + 1)
  found_more f g h left now segments all steps earlier v less is found grown ran one =
      let t = found.state in
      let u = greedy sorts parts p (length t.left) (entered sorts parts p v t) in
      let stands = ran (entered sorts parts p v t) (entered_stands f g left t v found.stands grown) in
      let n = visits_of parts p.left - (earlier + 1) in
      let count : visits_of parts p.left - earlier ≡ suc n = omega arith in
      let next : segments_from sorts parts p (visits_of parts p.left - earlier) (earlier + 1) t ≡ u.done ∷ segments_from sorts parts p n (v + 1) u =
      ap (λ k. segments_from sorts parts p k (earlier + 1) t) count ∙ ap (λ k. segments_from sorts parts p (suc n) k t) (sym is) in
      record {
        state = u;
        stands = record { left_is = stands.left_is; available_is = stands.available_is };
        rest =
            ap (λ xs. xs ++ map (map (step_of sorts parts p)) (segments_from sorts parts p n (earlier + 1 + 1) u)) one
            ∙ append_assoc segments (steps ∷ []) (map (map (step_of sorts parts p)) (segments_from sorts parts p n (earlier + 1 + 1) u))
            ∙ ap (λ xs. segments ++ (xs ∷ map (map (step_of sorts parts p)) (segments_from sorts parts p n (earlier + 1 + 1) u))) stands.steps_are
            ∙ ap (λ k. segments ++ (map (step_of sorts parts p) u.done ∷ map (map (step_of sorts parts p)) (segments_from sorts parts p n (k + 1) u))) (sym is)
            ∙ ap (λ xs. segments ++ map (map (step_of sorts parts p)) xs) (sym next)
            ∙ found.rest;
      }

  pub all_found : (f : Flags) (left : List Waiting) (segments : List (List Step)) (earlier : ℕ) → visits_of parts p.left ≤ earlier → FoundSo sorts parts p left f segments earlier
      → segments ≡ map (map (step_of sorts parts p)) (segments_of sorts parts p)
  all_found f left segments earlier end found =
      let none : visits_of parts p.left - earlier ≡ 0 = omega arith in
      sym (append-nil segments)
      ∙ sym (ap (λ k. segments ++ map (map (step_of sorts parts p)) (segments_from sorts parts p k (earlier + 1) found.state)) none)
      ∙ found.rest
