use Rattle.lrc_visit_tests.proofs.NodeLemmas.{reads-Int}
use Rattle.lrc_visit_tests.proofs.expressions.number.Goals as goal

pub returns : goal.returns
returns c = reads-Int _
