use Rattle.std.proofs.Common.{take}
use Rattle.lrc_syntax.specs.Spelling.{ArePartsOf}
use Rattle.lrc_syntax.specs.Faults.{IsBadPiece, AreTerminals}
use Rattle.lrc_syntax.proofs.ListLemmas.{NoneBefore}
use Rattle.lrc_syntax.proofs.parts.pattern_parts.Given as goal

-- the parts of the pieces so far, of which none is bad
abbrev pub invariant-loop-piece : goal.invariant-loop-piece
invariant-loop-piece l = record {
  parts : ArePartsOf l.kids (take l.piece-index l.pieces) l.parts;
  terminals : AreTerminals l.parts;
  right : NoneBefore IsBadPiece l.pieces l.piece-index;
}
