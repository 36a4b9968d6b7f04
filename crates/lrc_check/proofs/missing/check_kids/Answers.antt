use Rattle.std.proofs.Common.{sym}
use Rattle.lrc_fault_meaning.specs.Faults.{missing_of_kid}
use Rattle.lrc_check.proofs.ListLemmas.{faulty_item}
use Rattle.lrc_check.proofs.missing.check_kids.Goals as goal

pub returns-in-Err : goal.returns-in-Err
returns-in-Err c =
    sym (faulty_item (missing_of_kid c.args.sorts.now c.args.prod.now) c.args.kids.now c.loop-kid.kid-index c.kid-item.result c.in-Err.fault c.loop-kid.invariant c.loop-kid-test.true c.kid-item.is (sym c.in-Err.ensures))
