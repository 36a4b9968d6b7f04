use Rattle.std.proofs.Common.{◌≡◌}
use Rattle.lrc_graph.specs.Pairs.{Has, HasExactly}
use Rattle.lrc_graph.proofs.PairsLemmas.{RowsBelow, Before, After}
use Rattle.lrc_graph.proofs.relation.Relation.close_more.Given as goal

abbrev pub invariant-points : goal.invariant-points
invariant-points l = record {
  points : l.self.points ≡ l.fn.self.points;
  pairs : HasExactly l.self (RowsBelow (Has l.fn.self) (Before (Has l.fn.self) l.a) (After (Has l.fn.self) l.b) l.x);
}
