use Rattle.std.proofs.Common.{◌≡◌, ◌⊎◌, take, Contains}
use Rattle.lrc_graph.specs.Pairs.{Has, HasExactly}
use Rattle.lrc_order_meaning.specs.Needs.{need}
use Rattle.lrc_ordered.proofs.setup.add_needs.Given as goal

abbrev pub invariant-loop-need : goal.invariant-loop-need
invariant-loop-need l = record {
  points : l.relation.points ≡ l.initial.relation.points;
  pairs : HasExactly l.relation (λ x y. Has l.initial.relation x y ⊎ Contains (take l.need-index l.needs) (need x y));
}
