use Rattle.std.proofs.Common.{◌≡◌, ◌++◌, map}
use Rattle.std.specs.Prelude.{flat_map, slice_index}
use Rattle.std.specs.List.{range_with_len}
use Rattle.lrc_plan_meaning.specs.declared.Bound.TheVariants as b
use Rattle.lrc_plan_meaning.specs.Bindings.{bindings_at}
use Rattle.lrc_plan.proofs.bindings.all_items.Given as goal

abbrev pub invariant-symbols : goal.invariant-symbols
invariant-symbols l =
    l.items ≡ map b.Value (range_with_len 0 l.occurrences) ++ flat_map (λ s. bindings_at s (slice_index l.visits s)) (range_with_len 0 l.symbol)
