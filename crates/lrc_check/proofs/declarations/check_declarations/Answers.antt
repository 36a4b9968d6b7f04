use Rattle.std.proofs.Common.{◌≡◌, [], Err, sym, subst}
use Rattle.lrc_base.specs.declared.raw.RawProd.{RawProd}
use Rattle.lrc_fault_meaning.specs.Faults.{declaration_faults, each_after}
use Rattle.lrc_check.specs.Verdict.{verdict}
use Rattle.lrc_check.proofs.ListLemmas.{faulty_item}
use Rattle.lrc_check.proofs.declarations.check_declarations.Goals as goal

pub returns-in-Err : goal.returns-in-Err
returns-in-Err c =
    let sorts = c.args.sorts.now in
    let prod = c.prod-item.result in
    let here = subst (λ items. Err c.in-Err.fault ≡ verdict (each_after (declaration_faults sorts prod) [] items)) c.as_slice.ensures c.in-Err.ensures in
    sym (faulty_item (λ (p : RawProd). each_after (declaration_faults sorts p) [] p.items) c.args.prods.now c.loop-prod.prod-index prod c.in-Err.fault c.loop-prod.invariant c.loop-prod-test.true c.prod-item.is (sym here))
