-- What the greedy sequence does comes from what is left.
use Rattle.std.proofs.Common.{◌≡◌, ℕ, zero, suc, ◌+◌, Bool, true, false, cond, List, [], ◌∷◌, length, All, Option, Some, None, refl, ap, subst, arith}
use Rattle.std.specs.Option.{option_map_or, option_map}
use Rattle.std.proofs.lemmas.List.Elements.{All-nil, All-cons, All-append}
use Rattle.lrc_base.specs.declared.grammar.Sort.{Sort}
use Rattle.lrc_base.specs.declared.grammar.Production.{Production}
use Rattle.lrc_order_meaning.specs.declared.Partition.{Partition}
use Rattle.lrc_plan_meaning.specs.declared.Action.{Action}
use Rattle.lrc_plan_meaning.specs.Items.{visits_of}
use Rattle.lrc_plan_meaning.specs.Sequences.{State, pick, is_ready, did, greedy, entered, actions_of, segments_from, segments_of}

-- the first that passes, in a list that is not empty
pub pick_over : (test : Action → Bool) (x : Action) (xs : List Action) (P : Option (Action × List Action) → Type 0) → (test x ≡ true → P (Some (x, xs)))
    → (test x ≡ false → (o : Option (Action × List Action)) → pick test xs ≡ o → P (option_map (λ found. (found.0, x ∷ found.1)) o)) → P (pick test (x ∷ xs))
pick_over test x xs P here there = go (test x) refl
  where
    go : (b : Bool) → test x ≡ b → P (cond b (Some (x, xs)) (option_map (λ found. (found.0, x ∷ found.1)) (pick test xs)))
    go true e = here e
    go false e = there e (pick test xs) refl

-- what each action that is done keeps, the greedy sequence keeps
module _ (sorts : List Sort) (parts : List Partition) (p : Production) (R : State → Type 0)
    (one : (s : State) (found : Action × List Action) → pick (is_ready sorts parts p s.available) s.left ≡ Some found → R s → R (did sorts parts p s found)) where
  kept_over : (n : ℕ) → ((s : State) → R s → R (greedy sorts parts p n s)) → (s : State) → R s → (o : Option (Action × List Action)) → pick (is_ready sorts parts p s.available) s.left ≡ o
      → R (option_map_or (λ found. greedy sorts parts p n (did sorts parts p s found)) o s)
  kept_over n later s r None e = r
  kept_over n later s r (Some found) e = later (did sorts parts p s found) (one s found e r)

  pub greedy_keeps : (n : ℕ) (s : State) → R s → R (greedy sorts parts p n s)
  greedy_keeps zero s r = r
  greedy_keeps (suc n) s r = kept_over n (λ t q. greedy_keeps n t q) s r (pick (is_ready sorts parts p s.available) s.left) refl

module _ (Q : Action → Type 0) where
  abbrev Kept : Option (Action × List Action) → Type 0
  Kept None = Unit {0}
  Kept (Some found) = Q found.0 × All Q found.1

  kept_behind : (x : Action) → Q x → (o : Option (Action × List Action)) → Kept o → Kept (option_map (λ found. (found.0, x ∷ found.1)) o)
  kept_behind x q None k = tt
  kept_behind x q (Some found) k = (k.0, All-cons Q x found.1 q k.1)

  pub pick_kept : (test : Action → Bool) (xs : List Action) → All Q xs → Kept (pick test xs)
  pick_kept test [] all = tt
  pick_kept test (x ∷ xs) all =
      let rest : All Q xs = λ k d less. all (suc k) d (omega arith) in
      pick_over test x xs Kept (λ e. (all 0 x (omega arith), rest))
      (λ e o is. kept_behind x (all 0 x (omega arith)) o (subst Kept is (pick_kept test xs rest)))

  module _ (sorts : List Sort) (parts : List Partition) (p : Production) where
    pub record AllOf (s : State) : Type 0 where
      pub left : All Q s.left
      pub done : All Q s.done

    pub greedy_of : (n : ℕ) (s : State) → AllOf s → AllOf (greedy sorts parts p n s)
    greedy_of =
        greedy_keeps sorts parts p AllOf
        (λ s found e all.
        let kept : Kept (Some found) = subst Kept e (pick_kept (is_ready sorts parts p s.available) s.left all.left) in
        record { left = kept.1; done = All-append Q s.done (found.0 ∷ []) all.done (All-cons Q found.0 [] kept.0 (All-nil Q)) })

    pub segments_of_all : (n v : ℕ) (s : State) → All Q s.left → All (All Q) (segments_from sorts parts p n v s)
    segments_of_all zero v s all = All-nil (All Q)
    segments_of_all (suc n) v s all =
        let after = greedy sorts parts p (length s.left) (entered sorts parts p v s) in
        let kept = greedy_of (length s.left) (entered sorts parts p v s) (record { left = all; done = All-nil Q }) in
        All-cons (All Q) after.done (segments_from sorts parts p n (v + 1) after) kept.done (segments_of_all n (v + 1) after kept.left)

module _ (sorts : List Sort) (parts : List Partition) (p : Production) where
  pub segments_count : (n v : ℕ) (s : State) → length (segments_from sorts parts p n v s) ≡ n
  segments_count zero v s = refl
  segments_count (suc n) v s = ap suc (segments_count n (v + 1) (greedy sorts parts p (length s.left) (entered sorts parts p v s)))

  -- each action of a segment is one of the production's
  pub segments_are_of : (Q : Action → Type 0) → All Q (actions_of sorts parts p) → All (All Q) (segments_of sorts parts p)
  segments_are_of Q all = segments_of_all Q sorts parts p (visits_of parts p.left) 1 (record { done = []; left = actions_of sorts parts p; available = [] }) all
