use Rattle.std.proofs.Common.{◌≡◌, [], length}
use Rattle.lrc_reader.specs.Reading.{read_prods}
use Rattle.lrc_reader.proofs.grammar.productions.Given as goal

-- what is read from here on is what is read from the start
abbrev pub invariant-more : goal.invariant-more
invariant-more l = read_prods 0 l.productions l.cursor ≡ read_prods 0 [] l.fn.cursor

abbrev pub decreases-more : goal.decreases-more
decreases-more l = length l.cursor
