use Rattle.std.proofs.Common.{◌<◌}
use Rattle.lrc_ordered.specs.Tables.{GatheredAll, JoinedIn}
use Rattle.lrc_ordered.proofs.gather.gather.Given as goal

abbrev pub invariant-productions : goal.invariant-productions
invariant-productions l =
    GatheredAll l.initial.sorts l.sorts l.found (λ s x y. (j : JoinedIn l.initial.sorts l.relations l.places s x y) × (j.production < l.production))
