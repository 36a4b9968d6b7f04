-- A turn that is not the end, and the end.
use Rattle.std.proofs.Common.{◌≡◌, ℕ, ◌<◌, Option, subst, sym, refl, arith}
use Rattle.lrc_visit_meaning.specs.Values.{Call}
use Rattle.lrc_store.specs.Cells.{CellTree}
use Rattle.lrc_store.specs.Standing.{Standing, IsRemembered, Told}
use Rattle.lrc_store.specs.declared.cells.Handle.{Handle}
use Rattle.lrc_machine.specs.declared.turns.Step.{Step}
use Rattle.lrc_machine.specs.declared.turns.Step.TheVariants as step
use Rattle.lrc_machine.specs.Machine.{Slots, IsInner, IsTurn, AtTurn}
use Rattle.lrc_machine.specs.Counts.{Pairs, IsCellOf, Counted}
use Rattle.lrc_machine.proofs.WaitLemmas.{at_most, is_root}
use Rattle.lrc_machine.proofs.CountLemmas.{Counts, counted_end}

module _ {Mark : Type 0} where
  pub is_inner : (fuel level : ℕ) (next : Step Mark) → ((handle : Handle) → next ≡ step.Answer handle → level < fuel) → IsInner fuel level next
  is_inner fuel level (step.Open handle) less = tt
  is_inner fuel level (step.Answer handle) less = less handle refl
  is_inner fuel level (step.Go mark) less = tt

module _ {Frame Mark : Type 0} (form : Call → CellTree) (asks : Standing → Call → ℕ → Type 0) (gives : Standing → ℕ → Call → ℕ → Type 0)
    (runs : Standing → Frame → ℕ → Call → Mark → Type 0) (waits : Standing → Frame → ℕ → Call → Mark → Call → Type 0) (fits : Frame → Type 0)
    (s : Standing) (slots : Slots Frame Mark) (fuel : ℕ) (root : Call) (level : ℕ) (next : Step Mark) (at : AtTurn form asks gives runs waits fits s slots fuel root level next) (handle : Handle) (is : next ≡ step.Answer handle) where
  abbrev answer : IsTurn form asks gives runs waits fits s slots fuel root level (step.Answer handle)
  answer = subst (λ x. IsTurn form asks gives runs waits fits s slots fuel root level x) is at.turn

  pub is_below : ¬ (level ≡ fuel) → level < fuel
  is_below other = let le = at_most form waits fuel root s slots level answer.0 answer.2 in omega (arith, other)

  pub is_given : level ≡ fuel → gives s fuel root handle.0
  is_given same =
      subst (λ n. gives s n root handle.0) same
      (subst (λ c. gives s level c handle.0) (is_root form waits fuel root s slots level answer.0 same answer.2) answer.1)

  -- where the memo is whole, just what the root makes was remembered besides, each after one recall that found nothing
  pub is_counted : (calls : ℕ → Call → Call → Type 0) (is_whole : Option Pairs → Type 0)
      → ((s : Standing) (n : ℕ) (c : Call) (handle : ℕ) → gives s n c handle → is_whole s.memo → (d : Call) → calls n c d → Told s.memo (λ pairs. IsRemembered pairs (form d)))
      → (first : Standing) → is_whole s.memo → level ≡ fuel → Counts (IsCellOf form (calls fuel root)) fuel first s level → Counted first s (IsCellOf form (calls fuel root))
  is_counted calls is_whole sure first whole top counts =
      counted_end (IsCellOf form (calls fuel root)) fuel first s level top
      (λ cell met. subst (λ x. Told s.memo (λ pairs. IsRemembered pairs x)) (sym met.2) (sure s fuel root handle.0 (is_given top) whole met.0 met.1)) counts
