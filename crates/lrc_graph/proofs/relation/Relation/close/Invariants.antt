use Rattle.lrc_graph.proofs.PairsLemmas.{Shortened}
use Rattle.lrc_graph.proofs.relation.Relation.close.Given as goal

abbrev pub invariant-points : goal.invariant-points
invariant-points l = Shortened l.fn.self l.self l.via
