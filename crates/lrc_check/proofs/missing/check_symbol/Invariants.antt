use Rattle.lrc_fault_meaning.specs.Faults.{missing_of_symbol}
use Rattle.lrc_check.proofs.ListLemmas.{EachRightBefore}
use Rattle.lrc_check.proofs.missing.check_symbol.Given as goal

abbrev pub invariant-loop-attr : goal.invariant-loop-attr
invariant-loop-attr l = EachRightBefore (missing_of_symbol l.prod l.owner) l.attrs l.attr-index
