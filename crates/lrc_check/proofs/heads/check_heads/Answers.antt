use Rattle.std.proofs.Common.{sym}
use Rattle.lrc_fault_meaning.specs.Faults.{head_faults}
use Rattle.lrc_check.proofs.ListLemmas.{faulty_here}
use Rattle.lrc_check.proofs.heads.check_heads.Goals as goal

pub returns-in-Err : goal.returns-in-Err
returns-in-Err c =
    sym (faulty_here (head_faults c.args.sorts.now) c.args.prods.now c.loop-i.i c.index-prods-i.result c.in-Err.fault c.loop-i.invariant c.loop-i-test.true c.index-prods-i.is (sym c.in-Err.ensures))
