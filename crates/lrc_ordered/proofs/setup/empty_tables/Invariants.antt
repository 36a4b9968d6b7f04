use Rattle.std.proofs.Common.{take}
use Rattle.std.specs.List.{AllZip}
use Rattle.lrc_ordered.specs.Setup.{IsEmptyTable}
use Rattle.lrc_ordered.proofs.setup.empty_tables.Given as goal

abbrev pub invariant-loop-sort : goal.invariant-loop-sort
invariant-loop-sort l = AllZip IsEmptyTable (take l.sort-index l.sorts) l.tables.items
