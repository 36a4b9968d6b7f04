use Rattle.lrc_fault_meaning.specs.Faults.{sort_faults}
use Rattle.lrc_check.proofs.ListLemmas.{RightBefore}
use Rattle.lrc_check.proofs.sorts.check_sorts.Given as goal

abbrev pub invariant-loop-i : goal.invariant-loop-i
invariant-loop-i l = RightBefore (sort_faults l.sorts) l.sorts l.i
