use Rattle.std.proofs.Common.{◌≡◌, map, take}
use Rattle.lrc_order_meaning.specs.Needs.{needs_of}
use Rattle.lrc_ordered.proofs.setup.all_needs.Given as goal

abbrev pub invariant-loop-i : goal.invariant-loop-i
invariant-loop-i l = l.all ≡ map (needs_of l.sorts) (take l.i l.prods)
