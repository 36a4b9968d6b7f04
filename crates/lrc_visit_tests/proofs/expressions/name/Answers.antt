use Rattle.lrc_visit_tests.proofs.NodeLemmas.{reads-Name}
use Rattle.lrc_visit_tests.proofs.expressions.name.Goals as goal

pub returns : goal.returns
returns c = reads-Name c.in_ok-ok_or.field-0
