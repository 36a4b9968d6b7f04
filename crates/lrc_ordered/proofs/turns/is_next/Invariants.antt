use Rattle.std.proofs.Common.{ℕ, ◌<◌}
use Rattle.lrc_ordered.specs.Turns.{IsWaiting}
use Rattle.lrc_ordered.proofs.turns.is_next.Given as goal

abbrev pub invariant-attributes : goal.invariant-attributes
invariant-attributes l = (b : ℕ) → b < l.after → ¬ IsWaiting l.attrs l.sort l.sets l.inherited l.attr b
