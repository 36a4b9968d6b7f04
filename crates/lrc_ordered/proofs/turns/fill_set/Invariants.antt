use Rattle.lrc_ordered.proofs.TurnLemmas.{AreFilled}
use Rattle.lrc_ordered.proofs.turns.fill_set.Given as goal

abbrev pub invariant-attributes : goal.invariant-attributes
invariant-attributes l = AreFilled l.attrs l.sort l.initial.sets l.sets l.inherited l.set l.attr
