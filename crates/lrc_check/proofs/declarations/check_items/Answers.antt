use Rattle.std.proofs.Common.{sym}
use Rattle.lrc_fault_meaning.specs.Faults.{declaration_faults}
use Rattle.lrc_check.proofs.ListLemmas.{faulty_here}
use Rattle.lrc_check.proofs.declarations.check_items.Goals as goal

pub returns-in-Err : goal.returns-in-Err
returns-in-Err c =
    sym (faulty_here (declaration_faults c.args.sorts.now c.args.prod.now) c.args.items.now c.loop-i.i c.index-items-i.result c.in-Err.fault c.loop-i.invariant c.loop-i-test.true c.index-items-i.is (sym c.in-Err.ensures))
