use Rattle.std.proofs.Common.{◌≡◌, ◌+◌, ◌-◌, ◌++◌, map}
use Rattle.std.specs.Prelude.{flat_map}
use Rattle.std.specs.List.{range_with_len}
use Rattle.lrc_plan_meaning.specs.declared.Bound.TheVariants as b
use Rattle.lrc_plan.proofs.bindings.push_bindings.Given as goal

abbrev pub invariant-visits : goal.invariant-visits
invariant-visits l =
    l.items ≡ l.initial.items ++ flat_map (λ i. map (b.Kid l.symbol i) (range_with_len (i + 1) (l.visits - i))) (range_with_len 1 l.earlier)
