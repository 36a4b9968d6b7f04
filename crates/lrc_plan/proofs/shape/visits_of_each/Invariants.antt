use Rattle.std.proofs.Common.{◌≡◌, map, take}
use Rattle.lrc_order_meaning.specs.declared.Place.{Place}
use Rattle.lrc_plan_meaning.specs.Items.{visits_of}
use Rattle.lrc_plan.proofs.shape.visits_of_each.Given as goal

abbrev pub invariant-symbols : goal.invariant-symbols
invariant-symbols l = l.visits ≡ map (λ (place : Place). visits_of l.parts place.sort) (take l.symbol-index l.symbols)
