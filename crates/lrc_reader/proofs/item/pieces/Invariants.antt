use Rattle.std.proofs.Common.{◌≡◌, [], length}
use Rattle.lrc_reader.specs.Reading.{read_pieces}
use Rattle.lrc_reader.proofs.item.pieces.Given as goal

-- what is read from here on is what is read from the start
abbrev pub invariant-more : goal.invariant-more
invariant-more l = read_pieces l.pieces l.cursor ≡ read_pieces [] l.fn.cursor

abbrev pub decreases-more : goal.decreases-more
decreases-more l = length l.cursor
