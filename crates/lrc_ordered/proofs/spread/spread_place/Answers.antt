use Rattle.std.proofs.Common.{◌+◌, not-suc-le-zero, arith}
use Rattle.lrc_ordered.specs.Tables.{HandedAt}
use Rattle.lrc_ordered.proofs.SpreadLemmas.{HandedBelow, RowsBelow, rows_more, closed_then, closed_none, closed_change}
use Rattle.lrc_ordered.proofs.spread.spread_place.Goals as goal

pub attributes-init : goal.attributes-init
attributes-init c = closed_none c.args.relation.now (RowsBelow c.args.sort.now c.args.start 0) c.requires.closed (λ x y h. not-suc-le-zero h.1)

pub attributes-preserved : goal.attributes-preserved
attributes-preserved c =
    let n = c.attributes.first in
    let sort = c.args.sort.now in
    let value = c.points-first-end.ensures.value in
    closed_then c.args.relation.now c.attributes.relation c.spread_row.new.relation (RowsBelow sort c.args.start n)
    (HandedBelow sort c.args.start n sort.points) (RowsBelow sort c.args.start (n + 1)) c.attributes.invariant c.spread_row.ensures
    (λ x y. rows_more sort c.args.start n sort.points x y (λ a b h. let small = (c.points-first-end.ensures.within a b h).1 in omega arith))

pub returns : goal.returns
returns c =
    let low = c.attributes-test.false in
    closed_change c.args.relation.now c.attributes.relation (RowsBelow c.args.sort.now c.args.start c.attributes.first) (HandedAt c.args.sort.now c.args.start)
    c.attributes.invariant
    (λ x y. (λ w. w.0, λ h. (h, let small = (c.points-first-end.ensures.within h.first h.then h.pair).0 in omega arith)))
