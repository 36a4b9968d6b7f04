use Rattle.std.proofs.Common.{◌≡◌, ◌+◌, map}
use Rattle.std.specs.Prelude.{slice_index_or}
use Rattle.std.specs.List.{range_with_len}
use Rattle.lrc_plan.specs.Handing.{shared_from, no_items}
use Rattle.lrc_plan.proofs.bindings.bindings.Given as goal

abbrev pub invariant-visits : goal.invariant-visits
invariant-visits l = l.lists ≡ map (λ v. shared_from l.items (slice_index_or l.gained v no_items) l.used (v + 1)) (range_with_len 0 l.visit)
