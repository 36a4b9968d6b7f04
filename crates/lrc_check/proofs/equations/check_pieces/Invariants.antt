use Rattle.lrc_fault_meaning.specs.Faults.{piece_faults}
use Rattle.lrc_check.proofs.ListLemmas.{EachRightBefore}
use Rattle.lrc_check.proofs.equations.check_pieces.Given as goal

abbrev pub invariant-loop-piece : goal.invariant-loop-piece
invariant-loop-piece l = EachRightBefore (piece_faults l.prod) l.pieces l.piece-index
