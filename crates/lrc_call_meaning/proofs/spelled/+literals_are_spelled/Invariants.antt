use Rattle.std.proofs.Common.{◌≡◌, ℕ, ◌<◌, Some}
use Rattle.std.specs.Prelude.{slice_get}
use Rattle.lrc_base.specs.declared.expr.Expr.{Expr}
use Rattle.lrc_meaning.specs.Expression.{expression}
use Rattle.lrc_call_meaning.specs.Spelled.{AreLiteralsSpelled}
use Rattle.lrc_call_meaning.proofs.spelled.+literals_are_spelled.Given as goal

-- the literals of the parts so far are spelled
abbrev pub invariant-loop-part : goal.invariant-loop-part
invariant-loop-part l = (i : ℕ) (part : Expr) → i < l.part-index → slice_get l.part-items i ≡ Some part → AreLiteralsSpelled (expression part)
