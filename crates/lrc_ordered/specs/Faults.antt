-- Why a grammar is not ordered.
use Rattle.std.specs.Prelude.{List, ⊤}
use Rattle.lrc_base.specs.declared.grammar.Given.{Given}
use Rattle.lrc_meaning.specs.Grammar.{Grammar}
use Rattle.lrc_order_meaning.specs.Ordered.{IsInducedCycle, IsExtendedCycle}
use Rattle.lrc_ordered.specs.declared.faults.OrderFault.{OrderFault}
use Rattle.lrc_ordered.specs.declared.faults.OrderFault.TheVariants as f

-- an induced cycle, else an extended one, is as the fault says; want of memory is free
abbrev pub IsOrderFault : Grammar → List Given → OrderFault → Type 0
IsOrderFault g given (f.Induced production occurrence) = IsInducedCycle g given production occurrence
IsOrderFault g given (f.Extended production occurrence) = IsExtendedCycle g given production occurrence
IsOrderFault g given f.Memory = ⊤

-- the fault is no extended cycle
abbrev pub IsInducedFault : Grammar → List Given → OrderFault → Type 0
IsInducedFault g given (f.Induced production occurrence) = IsInducedCycle g given production occurrence
IsInducedFault g given (f.Extended production occurrence) = ⊥
IsInducedFault g given f.Memory = ⊤
