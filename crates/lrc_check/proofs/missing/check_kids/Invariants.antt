use Rattle.lrc_fault_meaning.specs.Faults.{missing_of_kid}
use Rattle.lrc_check.proofs.ListLemmas.{EachRightBefore}
use Rattle.lrc_check.proofs.missing.check_kids.Given as goal

abbrev pub invariant-loop-kid : goal.invariant-loop-kid
invariant-loop-kid l = EachRightBefore (missing_of_kid l.sorts l.prod) l.kids l.kid-index
