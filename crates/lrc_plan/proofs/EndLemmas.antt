-- What holds at the end of a segment: no action that is left is ready, and what was done is available.
use Rattle.std.proofs.Common.{◌≡◌, ℕ, zero, suc, ◌≤◌, Bool, true, false, ◌&&◌, List, [], ◌∷◌, length, get_or, All, Contains, Option, Some, None, ◌⊎◌, inl, inr, refl, sym, ap, ◌∙◌, subst, arith}
use Rattle.std.specs.Option.{option_map_or, option_map}
use Rattle.std.specs.List.{list_all}
use Rattle.std.proofs.lemmas.Bool.{true≢false}
use Rattle.std.proofs.lemmas.List.Elements.{Contains-append_left, Contains-append_right}
use Rattle.lrc_base.specs.declared.grammar.Sort.{Sort}
use Rattle.lrc_base.specs.declared.grammar.Production.{Production}
use Rattle.lrc_order_meaning.specs.declared.Partition.{Partition}
use Rattle.lrc_plan_meaning.specs.declared.Action.{Action}
use Rattle.lrc_plan_meaning.specs.declared.Bound.{Bound}
use Rattle.lrc_plan_meaning.specs.Items.{makes}
use Rattle.lrc_plan_meaning.specs.Sequences.{State, pick, is_ready, did, greedy, actions_of}
use Rattle.lrc_plan_meaning.proofs.GreedyLemmas.{pick_over, greedy_keeps}
use Rattle.std.proofs.lemmas.List.{get_or_default}
use Rattle.lrc_order_meaning.proofs.MemberLemmas.{member_first, member_later, member_cases}

-- where a test does not hold of all, it fails at one
fails_over : (test : Bound → Bool) (x : Bound) (xs : List Bound) (b : Bool) → test x ≡ b → (list_all test xs ≡ false → (y : Bound) × Contains xs y × (test y ≡ false))
    → (test x && list_all test xs) ≡ false → (y : Bound) × Contains (x ∷ xs) y × (test y ≡ false)
fails_over test x xs true e later h = let r = later (ap (λ c. c && list_all test xs) (sym e) ∙ h) in (r.0, member_later x xs r.0 r.1, r.2)
fails_over test x xs false e later h = (x, member_first x xs, e)

pub fails_at : (test : Bound → Bool) (xs : List Bound) → list_all test xs ≡ false → (y : Bound) × Contains xs y × (test y ≡ false)
fails_at test [] h = absurd (true≢false h)
fails_at test (x ∷ xs) h = fails_over test x xs (test x) refl (λ later. fails_at test xs later) h

-- where none is picked, none passes
abbrev NonePass : (Action → Bool) → List Action → Option (Action × List Action) → Type 0
NonePass test xs None = All (λ x. test x ≡ false) xs
NonePass test xs (Some found) = Unit {0}

none_behind : (test : Action → Bool) (x : Action) (xs : List Action) (o : Option (Action × List Action)) → test x ≡ false → NonePass test xs o
    → NonePass test (x ∷ xs) (option_map (λ found. (found.0, x ∷ found.1)) o)
none_behind test x xs None e h = all
  where
    all : All (λ y. test y ≡ false) (x ∷ xs)
    all zero d less = e
    all (suc k) d less = h k d (omega arith)
none_behind test x xs (Some found) e h = tt

none_pass : (test : Action → Bool) (xs : List Action) → NonePass test xs (pick test xs)
none_pass test [] = λ k d less. absurd (omega arith)
none_pass test (x ∷ xs) =
    pick_over test x xs (NonePass test (x ∷ xs)) (λ e. tt) (λ e o is. none_behind test x xs o e (subst (NonePass test xs) is (none_pass test xs)))

-- what is picked, and the others, are all
abbrev PickedOf : List Action → Option (Action × List Action) → Type 0
PickedOf xs None = Unit {0}
PickedOf xs (Some found) = ((y : Action) → Contains xs y → (y ≡ found.0) ⊎ Contains found.1 y) × (length xs ≡ suc (length found.1))

picked_behind : (x : Action) (xs : List Action) (o : Option (Action × List Action)) → PickedOf xs o → PickedOf (x ∷ xs) (option_map (λ found. (found.0, x ∷ found.1)) o)
picked_behind x xs None h = tt
picked_behind x xs (Some found) h = (
  λ y m.
      elim (member_cases x xs y m) [
        | inl e ↦ inr (subst (λ z. Contains (x ∷ found.1) z) e (member_first x found.1))
        | inr n ↦ elim (h.0 y n) [ inl same ↦ inl same | inr k ↦ inr (member_later x found.1 y k) ]
      ],
  ap suc h.1,
)

picked_of : (test : Action → Bool) (xs : List Action) → PickedOf xs (pick test xs)
picked_of test [] = tt
picked_of test (x ∷ xs) =
    pick_over test x xs (PickedOf (x ∷ xs)) (λ e. (λ y m. elim (member_cases x xs y m) [ inl same ↦ inl (sym same) | inr n ↦ inr n ], refl))
    (λ e o is. picked_behind x xs o (subst (PickedOf xs) is (picked_of test xs)))

module _ (sorts : List Sort) (parts : List Partition) (p : Production) where
  -- each action is left, or all that it makes is available
  pub record IsKept (s : State) : Type 0 where
    pub kept : (x : Action) → Contains (actions_of sorts parts p) x → Contains s.left x ⊎ All (Contains s.available) (makes sorts parts p x)

  pub kept_on : (s : State) (found : Action × List Action) → pick (is_ready sorts parts p s.available) s.left ≡ Some found → IsKept s → IsKept (did sorts parts p s found)
  kept_on s found e h =
      let picked : PickedOf s.left (Some found) = subst (PickedOf s.left) e (picked_of (is_ready sorts parts p s.available) s.left) in
      record {
        kept = λ x m.
            elim (h.kept x m) [
              | inl left ↦
                  elim (picked.0 x left) [
                    | inl same ↦
                        inr (λ k d less.
                        let y = get_or (makes sorts parts p x) k d in
                        Contains-append_right s.available (makes sorts parts p found.0) y
                        (subst (λ z. Contains (makes sorts parts p z) y) same (k, less, get_or_default (makes sorts parts p x) k y d less)))
                    | inr other ↦ inl other
                  ]
              | inr made ↦ inr (λ k d less. Contains-append_left s.available (makes sorts parts p found.0) (get_or (makes sorts parts p x) k d) (made k d less))
            ];
      }

  -- what was left is left, or was done
  pub record IsMoved (L : List Action) (s : State) : Type 0 where
    pub moved : (x : Action) → Contains L x → Contains s.left x ⊎ Contains s.done x

  pub moves_on : (L : List Action) (s : State) (found : Action × List Action) → pick (is_ready sorts parts p s.available) s.left ≡ Some found → IsMoved L s → IsMoved L (did sorts parts p s found)
  moves_on L s found e h =
      let picked : PickedOf s.left (Some found) = subst (PickedOf s.left) e (picked_of (is_ready sorts parts p s.available) s.left) in
      record {
        moved = λ x m.
            elim (h.moved x m) [
              | inr done ↦ inr (Contains-append_left s.done (found.0 ∷ []) x done)
              | inl left ↦
                  elim (picked.0 x left) [
                    | inl same ↦ inr (Contains-append_right s.done (found.0 ∷ []) x (subst (λ z. Contains (found.0 ∷ []) z) (sym same) (member_first found.0 [])))
                    | inr other ↦ inl other
                  ]
            ];
      }

  -- at the end no action that is left is ready
  abbrev pub AllDone : State → Type 0
  AllDone s = All (λ x. is_ready sorts parts p s.available x ≡ false) s.left

  ends_over : (n : ℕ) (s : State) (o : Option (Action × List Action)) → NonePass (is_ready sorts parts p s.available) s.left o → PickedOf s.left o → length s.left ≤ suc n
      → ((t : State) → length t.left ≤ n → AllDone (greedy sorts parts p n t))
      → AllDone (option_map_or (λ found. greedy sorts parts p n (did sorts parts p s found)) o s)
  ends_over n s None none picked le later = none
  ends_over n s (Some found) none picked le later = let count = picked.1 in later (did sorts parts p s found) (omega arith)

  pub ends : (n : ℕ) (s : State) → length s.left ≤ n → AllDone (greedy sorts parts p n s)
  ends zero s le = λ k d less. absurd (omega arith)
  ends (suc n) s le =
      ends_over n s (pick (is_ready sorts parts p s.available) s.left) (none_pass (is_ready sorts parts p s.available) s.left) (picked_of (is_ready sorts parts p s.available) s.left) le
      (λ t few. ends n t few)

  -- what was available stays so
  pub stays : (A : List Bound) (n : ℕ) (s : State) → All (Contains s.available) A → All (Contains (greedy sorts parts p n s).available) A
  stays A =
      greedy_keeps sorts parts p (λ s. All (Contains s.available) A)
      (λ s found e all k d less. Contains-append_left s.available (makes sorts parts p found.0) (get_or A k d) (all k d less))
