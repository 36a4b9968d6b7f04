use Rattle.lrc_fault_meaning.specs.Faults.{attr_faults}
use Rattle.lrc_check.proofs.ListLemmas.{RightBefore}
use Rattle.lrc_check.proofs.sorts.check_attrs.Given as goal

abbrev pub invariant-loop-i : goal.invariant-loop-i
invariant-loop-i l = RightBefore (attr_faults l.sorts l.place) l.attrs l.i
