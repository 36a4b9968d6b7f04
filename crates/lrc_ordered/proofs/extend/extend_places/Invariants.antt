use Rattle.std.proofs.Common.{take}
use Rattle.lrc_ordered.specs.Tables.{Closed, HandedAmong}
use Rattle.lrc_ordered.specs.Setup.{orders_of}
use Rattle.lrc_ordered.proofs.extend.extend_places.Given as goal

abbrev pub invariant-places : goal.invariant-places
invariant-places l = Closed l.initial.relation l.relation (HandedAmong (orders_of l.sorts) (take l.place-index l.places))
