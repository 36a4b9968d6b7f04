use Rattle.lrc_visit_tests.proofs.NodeLemmas.{reads-same, reads-Int, reads-Bool, reads-If}
use Rattle.lrc_visit_tests.proofs.expressions.first_chosen.Goals as goal

pub returns : goal.returns
returns c =
    reads-If _ _ _ (reads-same _ _ c.in_ok-new.ensures (reads-Bool _))
    (reads-same _ _ c.in_ok-new-2.ensures (reads-Int _)) (reads-same _ c.args.other c.in_ok-new-3.ensures c.requires)
