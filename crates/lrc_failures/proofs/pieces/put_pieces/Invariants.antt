use Rattle.std.proofs.Common.{◌≤◌, take}
use Rattle.std.specs.Io.KnownBytes.{Appends}
use Rattle.lrc_failures.specs.Pieces.{pieces_text}
use Rattle.lrc_failures.proofs.pieces.put_pieces.Given as goal

-- the pieces so far are appended
abbrev pub invariant-loop-piece : goal.invariant-loop-piece
invariant-loop-piece g l = record {
  done : Appends (g.O.Sink.held l.fn.out) (g.O.Sink.held l.out) (pieces_text (take l.piece-index l.pieces));
  count : g.O.Sink.faults l.fn.out ≤ g.O.Sink.faults l.out;
}
