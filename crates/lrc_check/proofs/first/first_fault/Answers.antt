use Rattle.std.proofs.Common.{◌≡◌, IfOk, sym, ap, subst, ◌∙◌, flat_map}
use Rattle.std.specs.Prelude.{option_map}
use Rattle.lrc_fault_meaning.specs.Faults.{body_faults, first, faults}
use Rattle.lrc_check.specs.Verdict.{verdict, answered, name_faults}
use Rattle.lrc_check.proofs.ListLemmas.{fault_in, and_then, verdict_append, first_is}
use Rattle.lrc_check.proofs.MissingLemmas.{behind_right, faults_are}
use Rattle.lrc_check.proofs.first.first_fault.Goals as goal

pub returns-in-Err : goal.returns-in-Err
returns-in-Err c =
    let raw = c.args.raw.now in
    let bodies = flat_map (body_faults raw) raw.prods in
    let named = ap (λ v. and_then v (verdict bodies)) c.in-Err.ensures in
    let whole = ap verdict (faults_are raw) ∙ verdict_append (name_faults raw) bodies in
    ap fault_in (named ∙ sym whole) ∙ sym (first_is (faults raw))

pub returns : goal.returns
returns c =
    let raw = c.args.raw.now in
    let bodies = flat_map (body_faults raw) raw.prods in
    let whole = ap verdict (faults_are raw) ∙ behind_right (name_faults raw) bodies c.in_default.ensures in
    let same : option_map answered (first bodies) ≡ option_map answered (first (faults raw)) = first_is bodies ∙ (ap fault_in (sym whole) ∙ sym (first_is (faults raw))) in
    subst (λ f. IfOk c.first_body_fault.result (λ found. found ≡ f)) same c.first_body_fault.ensures
