use Rattle.lrc_visit_tests.proofs.TermLemmas.{is_seven}
use Rattle.lrc_visit_tests.proofs.putting.seven.Goals as goal

pub returns : goal.returns
returns c = is_seven c.term_of.result c.term_of.ensures
