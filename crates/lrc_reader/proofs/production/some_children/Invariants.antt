use Rattle.std.proofs.Common.{◌≡◌, length}
use Rattle.lrc_reader.specs.Reading.{read_more_kids, read_some_kids}
use Rattle.lrc_reader.proofs.production.some_children.Given as goal

-- what is read from here on is what is read from the start
abbrev pub invariant-more : goal.invariant-more
invariant-more l = read_more_kids 0 l.children l.cursor ≡ read_some_kids 0 l.fn.cursor

abbrev pub decreases-more : goal.decreases-more
decreases-more l = length l.cursor
