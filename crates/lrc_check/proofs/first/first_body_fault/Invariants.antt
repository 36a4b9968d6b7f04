use Rattle.lrc_fault_meaning.specs.Faults.{body_faults}
use Rattle.lrc_check.proofs.ListLemmas.{EachRightBefore}
use Rattle.lrc_check.proofs.first.first_body_fault.Given as goal

abbrev pub invariant-loop-prod : goal.invariant-loop-prod
invariant-loop-prod l = EachRightBefore (body_faults l.raw) l.raw.prods l.prod-index
