use Rattle.std.proofs.Common.{take}
use Rattle.lrc_ordered.specs.Tables.{GatheredAll, JoinedAmong}
use Rattle.lrc_ordered.proofs.gather.gather_places.Given as goal

abbrev pub invariant-places : goal.invariant-places
invariant-places l =
    GatheredAll l.initial.sorts l.sorts l.found (JoinedAmong l.initial.sorts l.relation (take l.place-index l.places))
