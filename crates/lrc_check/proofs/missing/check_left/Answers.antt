use Rattle.std.proofs.Common.{sym}
use Rattle.lrc_fault_meaning.specs.Faults.{missing_of_left}
use Rattle.lrc_check.proofs.ListLemmas.{faulty_item}
use Rattle.lrc_check.proofs.missing.check_left.Goals as goal

pub returns-in-Err : goal.returns-in-Err
returns-in-Err c =
    sym (faulty_item (missing_of_left c.args.prod.now) c.args.attrs.now c.loop-attr.attr-index c.attr-item.result c.in-Err.fault c.loop-attr.invariant c.loop-attr-test.true c.attr-item.is (sym c.in-Err.ensures))
