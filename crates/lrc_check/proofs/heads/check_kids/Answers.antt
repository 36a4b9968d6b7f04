use Rattle.std.proofs.Common.{◌≡◌, [], Err, sym, subst}
use Rattle.lrc_fault_meaning.specs.Faults.{kid_faults, each_after}
use Rattle.lrc_check.specs.Verdict.{verdict}
use Rattle.lrc_check.proofs.ListLemmas.{faulty_here}
use Rattle.lrc_check.proofs.heads.check_kids.Goals as goal

pub returns-in-Err : goal.returns-in-Err
returns-in-Err c =
    let f = kid_faults c.args.sorts.now c.args.prod.now in
    subst (λ kids. Err c.in-Err.fault ≡ verdict (each_after f [] kids)) c.as_slice-kids.ensures
    (sym (faulty_here f c.as_slice-kids.result.now c.loop-i.i c.index-kids-i.result c.in-Err.fault c.loop-i.invariant c.loop-i-test.true c.index-kids-i.is (sym c.in-Err.ensures)))
