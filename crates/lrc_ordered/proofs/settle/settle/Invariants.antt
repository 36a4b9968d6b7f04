use Rattle.lrc_ordered.specs.Missing.{missing}
use Rattle.lrc_ordered.proofs.SettleLemmas.{AreSpread}
use Rattle.lrc_ordered.proofs.settle.settle.Given as goal

abbrev pub invariant-rounds : goal.invariant-rounds
invariant-rounds l = AreSpread l.fn.relations l.relations l.fn.sorts l.sorts l.places

abbrev pub decreases-rounds : goal.decreases-rounds
decreases-rounds l = missing l.sorts
