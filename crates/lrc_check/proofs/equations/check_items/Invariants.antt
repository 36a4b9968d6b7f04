use Rattle.lrc_fault_meaning.specs.Faults.{item_faults}
use Rattle.lrc_check.proofs.ListLemmas.{RightBefore}
use Rattle.lrc_check.proofs.equations.check_items.Given as goal

abbrev pub invariant-loop-i : goal.invariant-loop-i
invariant-loop-i l = RightBefore (item_faults l.scope.grammar l.scope.prod) l.items l.i
