use Rattle.std.proofs.Common.{◌<◌}
use Rattle.lrc_ordered.specs.Tables.{Closed, HandedAt}
use Rattle.lrc_ordered.proofs.spread.spread_place.Given as goal

abbrev pub invariant-attributes : goal.invariant-attributes
invariant-attributes l = Closed l.initial.relation l.relation (λ x y. (h : HandedAt l.sort l.start x y) × (h.first < l.first))
