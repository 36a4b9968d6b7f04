use Rattle.lrc_visit_tests.proofs.NodeLemmas.{reads-Bool}
use Rattle.lrc_visit_tests.proofs.expressions.truth.Goals as goal

pub returns : goal.returns
returns c = reads-Bool c.args.value
