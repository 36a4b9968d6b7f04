use Rattle.std.proofs.Common.{[]}
use Rattle.lrc_base.specs.declared.raw.RawProd.{RawProd}
use Rattle.lrc_fault_meaning.specs.Faults.{declaration_faults, each_after}
use Rattle.lrc_check.proofs.ListLemmas.{EachRightBefore}
use Rattle.lrc_check.proofs.declarations.check_declarations.Given as goal

abbrev pub invariant-loop-prod : goal.invariant-loop-prod
invariant-loop-prod l = EachRightBefore (λ (p : RawProd). each_after (declaration_faults l.sorts p) [] p.items) l.prods l.prod-index
