use Rattle.std.proofs.Common.{◌≡◌, [], length}
use Rattle.lrc_reader.specs.Reading.{read_edits}
use Rattle.lrc_reader.proofs.session.edits.Given as goal

-- what is read from here on is what is read from the start
abbrev pub invariant-more : goal.invariant-more
invariant-more l = read_edits 0 l.edits l.cursor ≡ read_edits 0 [] l.fn.cursor

abbrev pub decreases-more : goal.decreases-more
decreases-more l = length l.cursor
