use Rattle.lrc_visit_tests.proofs.TermLemmas.{is_five}
use Rattle.lrc_visit_tests.proofs.nodes.num_five.Goals as goal

pub returns : goal.returns
returns c = is_five c.term_of.result c.term_of.ensures
