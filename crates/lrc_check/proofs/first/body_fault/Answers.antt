use Rattle.std.proofs.Common.{◌≡◌, Err, sym, ap, subst, ◌∙◌}
use Rattle.lrc_fault_meaning.specs.Faults.{body_faults}
use Rattle.lrc_check.specs.Within.{Within}
use Rattle.lrc_check.specs.Verdict.{verdict}
use Rattle.lrc_check.proofs.ListLemmas.{fault_in, first_is}
use Rattle.lrc_check.proofs.first.body_fault.Goals as goal

pub returns : goal.returns
returns c =
    let found = subst (λ (s : Within). Err c.in-Err.fault ≡ verdict (body_faults s.grammar s.prod)) c.new-scope.ensures c.in-Err.ensures in
    ap fault_in found ∙ sym (first_is (body_faults c.args.raw.now c.args.prod.now))
