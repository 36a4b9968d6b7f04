use Rattle.lrc_fault_meaning.specs.Faults.{kid_faults}
use Rattle.lrc_check.proofs.ListLemmas.{RightBefore}
use Rattle.lrc_check.proofs.heads.check_kids.Given as goal

abbrev pub invariant-loop-i : goal.invariant-loop-i
invariant-loop-i l = RightBefore (kid_faults l.sorts l.prod) l.kids l.i
