use Rattle.std.proofs.Common.{◌≡◌, map, take}
use Rattle.lrc_order_meaning.specs.Needs.{places_of}
use Rattle.lrc_ordered.proofs.setup.all_places.Given as goal

abbrev pub invariant-loop-i : goal.invariant-loop-i
invariant-loop-i l = l.all ≡ map (places_of l.grammar.sorts) (take l.i l.grammar.prods)
