use Rattle.std.proofs.Common.{◌≡◌, [], length}
use Rattle.lrc_reader.specs.Reading.{read_attrs}
use Rattle.lrc_reader.proofs.sort.attributes.Given as goal

-- what is read from here on is what is read from the start
abbrev pub invariant-more : goal.invariant-more
invariant-more l = read_attrs 0 l.attributes l.cursor ≡ read_attrs 0 [] l.fn.cursor

abbrev pub decreases-more : goal.decreases-more
decreases-more l = length l.cursor
