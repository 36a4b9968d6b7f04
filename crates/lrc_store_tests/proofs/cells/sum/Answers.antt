use Rattle.lrc_store_tests.proofs.TermLemmas.{is_sum}
use Rattle.lrc_store_tests.proofs.cells.sum.Goals as goal

pub returns : goal.returns
returns c = is_sum c.term_of.result c.term_of.ensures
