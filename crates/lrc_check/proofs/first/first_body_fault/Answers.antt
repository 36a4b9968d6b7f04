use Rattle.std.proofs.Common.{sym, ap, ◌∙◌, flat_map}
use Rattle.lrc_fault_meaning.specs.Faults.{body_faults}
use Rattle.lrc_check.proofs.ListLemmas.{fault_in, first_is, verdict_err, verdict_ok, faulty_item, right_item}
use Rattle.lrc_check.proofs.first.first_body_fault.Goals as goal

pub returns-in-Some : goal.returns-in-Some
returns-in-Some c =
    let raw = c.args.raw.now in
    let prod = c.prod-item.result in
    let here = verdict_err (body_faults raw prod) c.in-Some.fault (sym c.in-Some.is ∙ c.in_ok-fault.ensures) in
    ap fault_in (sym (faulty_item (body_faults raw) raw.prods c.loop-prod.prod-index prod c.in-Some.fault c.loop-prod.invariant (rw c.as_slice-prod-items.ensures at c.loop-prod-test.true) (rw c.as_slice-prod-items.ensures at c.prod-item.is) here))
    ∙ sym (first_is (flat_map (body_faults raw) raw.prods))

pub loop-prod-preserved : goal.loop-prod-preserved
loop-prod-preserved c =
    let raw = c.args.raw.now in
    let prod = c.prod-item.result in
    let here = verdict_ok (body_faults raw prod) (sym c.in_default.is ∙ c.in_ok-fault.ensures) in
    right_item (body_faults raw) raw.prods c.loop-prod.prod-index prod tt c.loop-prod.invariant (rw c.as_slice-prod-items.ensures at c.loop-prod-test.true) (rw c.as_slice-prod-items.ensures at c.prod-item.is) here
