use Rattle.std.proofs.Common.{◌∙◌, arith}
use Rattle.lrc_visit_tests.proofs.NodeLemmas.{reads-Make-one}
use Rattle.lrc_visit_tests.proofs.expressions.num.Goals as goal

pub returns : goal.returns
returns c = reads-Make-one 0 c.args.arg _ (c.from_vec.ensures ∙ c.in_ok-vec.ensures.items) (omega arith) c.requires
