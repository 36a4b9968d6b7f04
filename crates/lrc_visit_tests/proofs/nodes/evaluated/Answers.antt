use Rattle.lrc_meaning.specs.Expression.{expression}
use Rattle.lrc_eval.proofs.GivenLemmas.{given-lasts}
use Rattle.lrc_visit_tests.specs.Nodes.{over_five}
use Rattle.lrc_visit_tests.proofs.NodeLemmas.{nothing-read}
use Rattle.lrc_visit_tests.proofs.nodes.evaluated.Goals as goal

-- what stood in the store before still stands in it
pub returns : goal.returns
returns g c =
    let s = g.S.Store.state c.args.store.now in
    let e = expression c.args.expr.now in
    let given = nothing-read s c.args.node e c.requires.node c.requires.reads in
    let after = c.evaluate.ensures.evaluates over_five given in
    (given-lasts s (g.S.Store.state c.evaluate.new.store) _ c.args.node over_five e after.adds.gains.lasts.known given).node
