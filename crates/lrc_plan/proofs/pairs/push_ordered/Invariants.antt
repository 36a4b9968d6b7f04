use Rattle.std.proofs.Common.{◌≡◌, ◌+◌, ◌++◌, map}
use Rattle.std.specs.Prelude.{filter, flat_map}
use Rattle.std.specs.List.{range_with_len}
use Rattle.lrc_order_meaning.specs.Needs.{need}
use Rattle.lrc_plan_meaning.specs.Items.{comes_before}
use Rattle.lrc_plan.proofs.pairs.push_ordered.Given as goal

abbrev pub invariant-attributes : goal.invariant-attributes
invariant-attributes l =
    l.pairs
    ≡ l.initial.pairs
    ++ flat_map (λ x. map (λ y. need (l.place.start + x) (l.place.start + y)) (filter (comes_before l.parts l.place.sort x) (range_with_len 0 l.count)))
    (range_with_len 0 l.first)
