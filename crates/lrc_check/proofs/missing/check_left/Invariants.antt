use Rattle.lrc_fault_meaning.specs.Faults.{missing_of_left}
use Rattle.lrc_check.proofs.ListLemmas.{EachRightBefore}
use Rattle.lrc_check.proofs.missing.check_left.Given as goal

abbrev pub invariant-loop-attr : goal.invariant-loop-attr
invariant-loop-attr l = EachRightBefore (missing_of_left l.prod) l.attrs l.attr-index
