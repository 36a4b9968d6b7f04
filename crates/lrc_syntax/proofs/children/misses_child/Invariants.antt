use Rattle.std.proofs.Common.{◌≡◌, ◌<◌, ℕ, count_by}
use Rattle.lrc_syntax.specs.Faults.{is_child}
use Rattle.lrc_syntax.proofs.children.misses_child.Given as goal

-- each child before this one stands once
abbrev pub invariant-loop-number : goal.invariant-loop-number
invariant-loop-number l = (i : ℕ) → i < l.number → count_by (is_child i) l.pieces ≡ 1
