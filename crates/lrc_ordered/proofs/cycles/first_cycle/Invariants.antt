use Rattle.lrc_ordered.specs.Cycles.{HasNoneBelow}
use Rattle.lrc_ordered.proofs.cycles.first_cycle.Given as goal

abbrev pub invariant-productions : goal.invariant-productions
invariant-productions l = HasNoneBelow l.relations l.production
