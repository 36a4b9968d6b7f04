use Rattle.lrc_visit_tests.proofs.NodeLemmas.{reads-same, reads-Op}
use Rattle.lrc_visit_tests.proofs.expressions.operation.Goals as goal

pub returns : goal.returns
returns c =
    reads-Op c.args.op _ _ (reads-same _ c.args.left c.in_ok-new.ensures c.requires.left) (reads-same _ c.args.right c.in_ok-new-2.ensures c.requires.right)
