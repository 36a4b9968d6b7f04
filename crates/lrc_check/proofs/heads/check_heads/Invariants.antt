use Rattle.lrc_fault_meaning.specs.Faults.{head_faults}
use Rattle.lrc_check.proofs.ListLemmas.{RightBefore}
use Rattle.lrc_check.proofs.heads.check_heads.Given as goal

abbrev pub invariant-loop-i : goal.invariant-loop-i
invariant-loop-i l = RightBefore (head_faults l.sorts) l.prods l.i
