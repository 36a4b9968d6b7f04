use Rattle.std.proofs.Common.{◌∙◌, arith}
use Rattle.lrc_visit_tests.proofs.NodeLemmas.{reads-Make-two}
use Rattle.lrc_visit_tests.proofs.expressions.add.Goals as goal

pub returns : goal.returns
returns c = reads-Make-two 1 c.args.left c.args.right _ (c.from_vec.ensures ∙ c.in_ok-vec.ensures.items) (omega arith) c.requires.left c.requires.right
