use Rattle.std.proofs.Common.{◌≡◌, ◌++◌, flat_map, take}
use Rattle.lrc_augment.specs.Filled.{copy_up}
use Rattle.lrc_augment.proofs.copies.add_copies_up.Given as goal

abbrev pub invariant-loop-attr : goal.invariant-loop-attr
invariant-loop-attr l = l.copies ≡ l.initial.copies ++ flat_map (copy_up l.items l.symbols) (take l.attr-index l.left)
