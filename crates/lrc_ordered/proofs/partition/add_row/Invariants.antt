use Rattle.std.proofs.Common.{◌≡◌, ◌<◌}
use Rattle.lrc_ordered.specs.Numbered.{Added, ComesBefore}
use Rattle.lrc_ordered.proofs.partition.add_row.Given as goal

abbrev pub invariant-attributes : goal.invariant-attributes
invariant-attributes l = Added l.initial.before l.before (λ x y. (y < l.then) × (x ≡ l.first) × ComesBefore l.induced l.sets x y)
