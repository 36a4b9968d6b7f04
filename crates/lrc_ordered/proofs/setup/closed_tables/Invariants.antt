use Rattle.std.proofs.Common.{take}
use Rattle.std.specs.List.{AllZip}
use Rattle.lrc_ordered.specs.Setup.{HasNeeds}
use Rattle.lrc_ordered.proofs.setup.closed_tables.Given as goal

abbrev pub invariant-loop-i : goal.invariant-loop-i
invariant-loop-i l = AllZip (HasNeeds l.grammar.sorts) (take l.i l.grammar.prods) l.tables.items
