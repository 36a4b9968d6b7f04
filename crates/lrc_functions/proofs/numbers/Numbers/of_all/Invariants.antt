use Rattle.std.proofs.Common.{◌≡◌, map, take}
use Rattle.lrc_functions.specs.Numbers.{number_in}
use Rattle.lrc_functions.proofs.numbers.Numbers.of_all.Given as goal

abbrev pub invariant-items : goal.invariant-items
invariant-items l = l.numbers ≡ map (number_in l.self) (take l.item-index l.items)
