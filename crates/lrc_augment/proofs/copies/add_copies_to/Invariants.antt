use Rattle.std.proofs.Common.{◌≡◌, ◌++◌, flat_map, take}
use Rattle.lrc_augment.specs.Filled.{copy_down}
use Rattle.lrc_augment.proofs.copies.add_copies_to.Given as goal

abbrev pub invariant-loop-attr : goal.invariant-loop-attr
invariant-loop-attr l =
    l.copies ≡ l.initial.copies ++ flat_map (copy_down l.items l.left l.symbol.name) (take l.attr-index l.symbol.attrs)
