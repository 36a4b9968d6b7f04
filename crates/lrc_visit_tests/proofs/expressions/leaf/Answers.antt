use Rattle.lrc_visit_tests.proofs.NodeLemmas.{reads-Leaf}
use Rattle.lrc_visit_tests.proofs.expressions.leaf.Goals as goal

pub returns : goal.returns
returns c = reads-Leaf
