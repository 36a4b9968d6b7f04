use Rattle.std.proofs.Common.{sym}
use Rattle.lrc_fault_meaning.specs.Faults.{piece_faults}
use Rattle.lrc_check.proofs.ListLemmas.{faulty_item}
use Rattle.lrc_check.proofs.equations.check_pieces.Goals as goal

pub returns-in-Err : goal.returns-in-Err
returns-in-Err c =
    sym (faulty_item (piece_faults c.args.prod.now) c.args.pieces.now c.loop-piece.piece-index c.piece-item.result c.in-Err.fault c.loop-piece.invariant c.loop-piece-test.true c.piece-item.is (sym c.in-Err.ensures))
