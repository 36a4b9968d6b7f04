use Rattle.std.proofs.Common.{length}
use Rattle.lrc_base.specs.declared.limits.TheConstants.{TERM_LEVEL_LIMIT}
use Rattle.lrc_reader.specs.Reading.{read_term}
use Rattle.lrc_reader.proofs.OpenNodes.{Reads}
use Rattle.lrc_reader.proofs.term.term.Given as goal

-- what is read from here on is what is read from the start
abbrev pub invariant-more : goal.invariant-more
invariant-more l = Reads l.ended TERM_LEVEL_LIMIT l.open l.trees l.cursor (read_term 0 l.fn.cursor)

abbrev pub decreases-more : goal.decreases-more
decreases-more l = length l.cursor
