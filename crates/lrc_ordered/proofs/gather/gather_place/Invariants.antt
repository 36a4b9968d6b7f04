use Rattle.std.proofs.Common.{◌<◌}
use Rattle.lrc_ordered.specs.Tables.{Gathered, JoinedAt}
use Rattle.lrc_ordered.proofs.gather.gather_place.Given as goal

abbrev pub invariant-attributes : goal.invariant-attributes
invariant-attributes l =
    Gathered l.initial.sort l.sort l.found (λ x y. (x < l.first) × JoinedAt l.initial.sort.points l.relation l.start x y)
