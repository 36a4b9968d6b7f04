use Rattle.lrc_augment.specs.Orders.{pairs_of}
use Rattle.lrc_augment.proofs.OrderLemmas.{told, unknown_pair}
use Rattle.lrc_augment.proofs.pairs.given.Goals as goal

pub returns-in_err-pair : goal.returns-in_err-pair
returns-in_err-pair c =
    let sorts = c.args.grammar.now.sorts in
    told c.from_residual.result (pairs_of sorts c.args.orders.now) c.in_err-pair.field-0.0 c.from_residual.ensures.0 c.from_residual.ensures.1
    (unknown_pair sorts c.args.orders.now c.loop-line.line-index c.line-item.result c.loop-line.pairs c.in_err-pair.field-0.0 c.loop-line-test.true c.line-item.is c.loop-line.invariant c.in_err-pair.ensures)
