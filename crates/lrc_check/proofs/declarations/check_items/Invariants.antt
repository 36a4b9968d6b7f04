use Rattle.lrc_fault_meaning.specs.Faults.{declaration_faults}
use Rattle.lrc_check.proofs.ListLemmas.{RightBefore}
use Rattle.lrc_check.proofs.declarations.check_items.Given as goal

abbrev pub invariant-loop-i : goal.invariant-loop-i
invariant-loop-i l = RightBefore (declaration_faults l.sorts l.prod) l.items l.i
