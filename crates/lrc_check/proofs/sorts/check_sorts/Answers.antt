use Rattle.std.proofs.Common.{sym}
use Rattle.lrc_fault_meaning.specs.Faults.{sort_faults}
use Rattle.lrc_check.proofs.ListLemmas.{faulty_here}
use Rattle.lrc_check.proofs.sorts.check_sorts.Goals as goal

pub returns-in-Err : goal.returns-in-Err
returns-in-Err c =
    sym (faulty_here (sort_faults c.args.sorts.now) c.args.sorts.now c.loop-i.i c.index-sorts-i.result c.in-Err.fault c.loop-i.invariant c.loop-i-test.true c.index-sorts-i.is (sym c.in-Err.ensures))
