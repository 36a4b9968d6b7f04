use Rattle.std.proofs.Common.{◌≡◌, ◌++◌, flat_map, take}
use Rattle.lrc_augment.specs.Filled.{symbol_of_item}
use Rattle.lrc_augment.proofs.symbols.add_attached.Given as goal

abbrev pub invariant-loop-item : goal.invariant-loop-item
invariant-loop-item l = l.symbols ≡ l.initial.symbols ++ flat_map (symbol_of_item l.sorts) (take l.item-index l.items)
