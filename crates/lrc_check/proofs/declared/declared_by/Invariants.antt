use Rattle.std.proofs.Common.{◌≡◌, map, flat_map, take}
use Rattle.lrc_fault_meaning.specs.Faults.{declared_by}
use Rattle.lrc_check.specs.Declares.{declaration}
use Rattle.lrc_check.proofs.declared.declared_by.Given as goal

abbrev pub invariant-loop-item : goal.invariant-loop-item
invariant-loop-item l = map declaration l.declared ≡ flat_map declared_by (take l.item-index l.items)
