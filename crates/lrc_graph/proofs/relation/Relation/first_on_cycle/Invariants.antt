use Rattle.std.proofs.Common.{ℕ, ◌<◌}
use Rattle.lrc_graph.specs.Pairs.{Has}
use Rattle.lrc_graph.proofs.relation.Relation.first_on_cycle.Given as goal

abbrev pub invariant-points : goal.invariant-points
invariant-points l = (point : ℕ) → point < l.point → ¬ Has l.self point point
