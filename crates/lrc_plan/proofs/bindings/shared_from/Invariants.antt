use Rattle.std.proofs.Common.{◌≡◌, ◌-◌, ◌≤◌, map, max, length}
use Rattle.std.specs.Prelude.{slice_index_or}
use Rattle.std.specs.List.{range_with_len}
use Rattle.lrc_plan.specs.Handing.{shared, no_items}
use Rattle.lrc_plan.proofs.bindings.shared_from.Given as goal

abbrev pub invariant-visits : goal.invariant-visits
invariant-visits l = record {
  lists : l.lists ≡ map (λ w. shared l.items l.gained (slice_index_or l.used w no_items)) (range_with_len l.first (l.visit - l.first));
  within : l.visit ≤ max l.first (length l.used);
}
