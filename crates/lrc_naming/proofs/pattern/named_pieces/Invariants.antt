use Rattle.lrc_meaning.specs.Naming.{named_piece}
use Rattle.lrc_naming.proofs.ListLemmas.{NamesFirst}
use Rattle.lrc_naming.proofs.pattern.named_pieces.Given as goal

abbrev pub invariant-loop-piece : goal.invariant-loop-piece
invariant-loop-piece l = NamesFirst (named_piece l.kids) l.pieces l.piece-index l.named
