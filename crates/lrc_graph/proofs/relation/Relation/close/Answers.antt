use Rattle.std.proofs.Common.{◌≡◌, arith, subst}
use Rattle.lrc_graph.specs.Pairs.{Has}
use Rattle.lrc_graph.proofs.PairsLemmas.{Shortened, Shortened-none, Shortened-more, Shortened-all, closed-paths}
use Rattle.lrc_graph.proofs.relation.Relation.close.Goals as goal

pub points-init : goal.points-init
points-init c = Shortened-none c.args.self.now

pub points-preserved : goal.points-preserved
points-preserved c =
    Shortened-more c.args.self.now c.points.self c.shorten.new.self c.points.via c.points.invariant c.shorten.ensures.points c.shorten.ensures.pairs

pub returns-clause-pairs : goal.returns-clause-pairs
returns-clause-pairs c =
    let end : c.points.via ≡ c.points-via-end.result = omega arith in
    Shortened-all c.args.self.now c.points.self c.points-via-end.result c.points-via-end.ensures.within
    (subst (λ k. Shortened c.args.self.now c.points.self k) end c.points.invariant)

pub returns-clause-closed : goal.returns-clause-closed
returns-clause-closed c = closed-paths (Has c.args.self.now) c.points.self (returns-clause-pairs c)
