use Rattle.std.proofs.Common.{◌≡◌}
use Rattle.lrc_graph.specs.Pairs.{Has, HasExactly}
use Rattle.lrc_graph.proofs.PairsLemmas.{RowsBelow}
use Rattle.lrc_graph.proofs.relation.Relation.shorten.Given as goal

abbrev pub invariant-points : goal.invariant-points
invariant-points l = record {
  points : l.self.points ≡ l.fn.self.points;
  pairs : HasExactly l.self (RowsBelow (Has l.fn.self) (λ x. Has l.fn.self x l.via) (λ y. Has l.fn.self l.via y) l.x);
}
