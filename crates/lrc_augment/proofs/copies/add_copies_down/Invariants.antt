use Rattle.std.proofs.Common.{◌≡◌, ◌++◌, flat_map, take}
use Rattle.lrc_augment.specs.Filled.{copies_down}
use Rattle.lrc_augment.proofs.copies.add_copies_down.Given as goal

abbrev pub invariant-loop-symbol : goal.invariant-loop-symbol
invariant-loop-symbol l = l.copies ≡ l.initial.copies ++ flat_map (copies_down l.items l.left) (take l.symbol-index l.symbols)
