use Rattle.std.proofs.Common.{◌≡◌, ◌+◌}
use Rattle.lrc_graph.specs.Pairs.{Has}
use Rattle.lrc_ordered.proofs.SpreadLemmas.{closed_one, closed_none}
use Rattle.lrc_ordered.proofs.spread.spread_pair.Goals as goal

pub returns-then-has : goal.returns-then-has
returns-then-has c =
    closed_one c.args.relation.now c.close_more.new.self (c.args.start + c.args.first) (c.args.start + c.args.then)
    (λ x y. (x ≡ c.args.start + c.args.first) × (y ≡ c.args.start + c.args.then) × Has c.args.sort.now c.args.first c.args.then)
    c.close_more.ensures.points c.close_more.ensures.pairs c.close_more.ensures.closed
    (λ x y. (λ e. (e.0, e.1, c.has.ensures.0 c.if-has.true), λ e. (e.0, e.1)))

pub returns-else-has : goal.returns-else-has
returns-else-has c =
    closed_none c.args.relation.now
    (λ x y. (x ≡ c.args.start + c.args.first) × (y ≡ c.args.start + c.args.then) × Has c.args.sort.now c.args.first c.args.then)
    c.requires.closed (λ x y e. let held = c.has.ensures.1 e.2 in let not = c.if-has.false in absurd (cc))
