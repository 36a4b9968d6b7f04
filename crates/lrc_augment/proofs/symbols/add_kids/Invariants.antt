use Rattle.std.proofs.Common.{◌≡◌, ◌++◌, flat_map, take}
use Rattle.lrc_augment.specs.Filled.{symbol_of_kid}
use Rattle.lrc_augment.proofs.symbols.add_kids.Given as goal

abbrev pub invariant-loop-kid : goal.invariant-loop-kid
invariant-loop-kid l = l.symbols ≡ l.initial.symbols ++ flat_map (symbol_of_kid l.sorts) (take l.kid-index l.kids)
