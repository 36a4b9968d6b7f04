-- A law of the numbers of items.
use Rattle.std.specs.Prelude.{◌≡◌, List, length, Some, Contains, slice_get}
use Rattle.lrc_base.specs.declared.grammar.Sort.{Sort}
use Rattle.lrc_base.specs.declared.grammar.Production.{Production}
use Rattle.lrc_order_meaning.specs.declared.Partition.{Partition}
use Rattle.lrc_plan_meaning.specs.declared.Bound.{Bound}
use Rattle.lrc_plan_meaning.specs.Bindings.{items_of}
use Rattle.lrc_functions.specs.Numbers.{number, item_count}

-- each item stands at its number among all items, so no two have one number
abbrev pub NumbersTellItems : Type 0
NumbersTellItems = (sorts : List Sort) (parts : List Partition) (p : Production) (x : Bound) → Contains (items_of sorts parts p) x
    → slice_get (items_of sorts parts p) (number sorts parts p x) ≡ Some x

-- and there are so many
abbrev pub CountTellsItems : Type 0
CountTellsItems = (sorts : List Sort) (parts : List Partition) (p : Production) → item_count sorts parts p ≡ length (items_of sorts parts p)
