use Rattle.std.proofs.Common.{◌≡◌, ◌≤◌, take, count_by}
use Rattle.lrc_syntax.specs.Faults.{is_child}
use Rattle.lrc_syntax.proofs.children.occurrences.Given as goal

abbrev pub invariant-loop-piece : goal.invariant-loop-piece
invariant-loop-piece l = (l.count ≡ count_by (is_child l.number) (take l.piece-index l.pieces)) × (l.count ≤ l.piece-index)
