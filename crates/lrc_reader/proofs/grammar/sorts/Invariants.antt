use Rattle.std.proofs.Common.{◌≡◌, [], length}
use Rattle.lrc_reader.specs.Reading.{read_sorts}
use Rattle.lrc_reader.proofs.grammar.sorts.Given as goal

-- what is read from here on is what is read from the start
abbrev pub invariant-more : goal.invariant-more
invariant-more l = read_sorts 0 l.sorts l.cursor ≡ read_sorts 0 [] l.fn.cursor

abbrev pub decreases-more : goal.decreases-more
decreases-more l = length l.cursor
