use Rattle.std.proofs.Common.{◌≡◌, map, take}
use Rattle.lrc_functions.specs.Numbers.{number_in}
use Rattle.lrc_functions.proofs.numbers.Numbers.of_each.Given as goal

abbrev pub invariant-lists : goal.invariant-lists
invariant-lists l = l.numbers ≡ map (map (number_in l.self)) (take l.items-index l.lists)
