-- What is known of each case of a move.
use Rattle.std.proofs.Common.{◌≡◌, ℕ, subst}
use Rattle.lrc_store.specs.declared.cells.Handle.{Handle}
use Rattle.lrc_machine.specs.declared.bodies.Moved.{Moved}
use Rattle.lrc_machine.specs.declared.bodies.Moved.TheVariants as m
use Rattle.lrc_machine.specs.Steps.{Moves}

module _ {Mark : Type 0} (went : Mark → Type 0) (asked : Mark → ℕ → Type 0) (ended : ℕ → Type 0) (deep : Type 0) where
  pub of_went : (move : Moved Mark) (mark : Mark) → move ≡ m.Went mark → Moves went asked ended deep move → went mark
  of_went move mark is known = subst (λ x. Moves went asked ended deep x) is known

  pub of_asked : (move : Moved Mark) (mark : Mark) (handle : Handle) → move ≡ m.Asked mark handle → Moves went asked ended deep move → asked mark handle.0
  of_asked move mark handle is known = subst (λ x. Moves went asked ended deep x) is known

  pub of_ended : (move : Moved Mark) (handle : Handle) → move ≡ m.Ended handle → Moves went asked ended deep move → ended handle.0
  of_ended move handle is known = subst (λ x. Moves went asked ended deep x) is known

  pub of_deep : (move : Moved Mark) → move ≡ m.Deep → Moves went asked ended deep move → deep
  of_deep move is known = subst (λ x. Moves went asked ended deep x) is known
