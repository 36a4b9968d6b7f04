use Rattle.lrc_fault_meaning.specs.Faults.{missing_of_declared}
use Rattle.lrc_check.specs.declared.declared.Declared.{Declared}
use Rattle.lrc_check.specs.Declares.{declaration}
use Rattle.lrc_check.proofs.ListLemmas.{EachRightBefore}
use Rattle.lrc_check.proofs.missing.check_all_declared.Given as goal

abbrev pub invariant-loop-one : goal.invariant-loop-one
invariant-loop-one l = EachRightBefore (λ (d : Declared). missing_of_declared l.sorts l.prod (declaration d)) l.declared l.one-index
