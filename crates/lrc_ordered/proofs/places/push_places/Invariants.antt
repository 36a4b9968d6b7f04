use Rattle.std.proofs.Common.{◌≡◌, ◌++◌, map, take}
use Rattle.lrc_order_meaning.specs.Signed.{place_of}
use Rattle.lrc_ordered.proofs.places.push_places.Given as goal

abbrev pub invariant-loop-symbol : goal.invariant-loop-symbol
invariant-loop-symbol l = l.places ≡ l.initial.places ++ map place_of (take l.symbol-index l.symbols)
