use Rattle.std.proofs.Common.{rules, arith}
use native.Mathlib.Numerals.{unary_clauses}
use Rattle.lrc_failures.proofs.PieceLemmas.{none_yet, more_so_far, failed}
use Rattle.lrc_failures.proofs.pieces.put_pieces.Goals as goal

pub loop-piece-init : goal.loop-piece-init
loop-piece-init g c = record { done = none_yet _; count = omega arith }

pub loop-piece-preserved : goal.loop-piece-preserved
loop-piece-preserved g c =
    let before = c.loop-piece.invariant.count in
    let falls = c.put_piece.ensures.never_falls in
    record {
      done = simp unary_clauses (more_so_far _ (g.O.Sink.held c.loop-piece.out) _ _ _ c.put_piece.result c.args.pieces.now c.loop-piece.piece-index c.piece-item.result c.loop-piece-test.true c.piece-item.is
          c.loop-piece.invariant.done c.put_piece.ensures (search rules));
      count = omega arith;
    }

pub returns-in_err-put_piece : goal.returns-in_err-put_piece
returns-in_err-put_piece g c =
    failed _ (g.O.Sink.held c.loop-piece.out) _ _ (g.O.Sink.faults c.loop-piece.out) _ c.put_piece.result c.from_residual.result c.args.pieces.now c.loop-piece.piece-index c.piece-item.result
    c.loop-piece-test.true c.piece-item.is c.loop-piece.invariant.done c.loop-piece.invariant.count c.put_piece.ensures (search rules) c.from_residual.ensures.0
