use Rattle.std.proofs.Common.{◌≡◌, ◌+◌, not-suc-le-zero, subst, arith}
use Rattle.lrc_graph.specs.Pairs.{Has}
use Rattle.lrc_ordered.specs.Tables.{Closed}
use Rattle.lrc_ordered.proofs.SpreadLemmas.{HandedBelow, handed_more, closed_then, closed_none}
use Rattle.lrc_ordered.proofs.spread.spread_row.Goals as goal

pub attributes-init : goal.attributes-init
attributes-init c =
    closed_none c.args.relation.now (HandedBelow c.args.sort.now c.args.start c.args.first 0) c.requires.closed (λ x y h. not-suc-le-zero h.1)

pub attributes-preserved : goal.attributes-preserved
attributes-preserved c =
    let n = c.attributes.then in
    let sort = c.args.sort.now in
    closed_then c.args.relation.now c.attributes.relation c.spread_pair.new.relation (HandedBelow sort c.args.start c.args.first n)
    (λ x y. (x ≡ c.args.start + c.args.first) × (y ≡ c.args.start + n) × Has sort c.args.first n)
    (HandedBelow sort c.args.start c.args.first (n + 1)) c.attributes.invariant c.spread_pair.ensures (handed_more sort c.args.start c.args.first n)

pub returns : goal.returns
returns c =
    let value = c.points-then-end.ensures.value in
    let low = c.attributes-test.false in
    let high = c.attributes.auto.then-end in
    let end : c.attributes.then ≡ c.args.sort.now.points = omega arith in
    subst (λ n. Closed c.args.relation.now c.attributes.relation (HandedBelow c.args.sort.now c.args.start c.args.first n)) end c.attributes.invariant
