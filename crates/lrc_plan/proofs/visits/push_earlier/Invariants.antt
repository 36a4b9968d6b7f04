use Rattle.std.proofs.Common.{◌≡◌, ◌-◌, ◌≤◌, max, ◌++◌, map}
use Rattle.std.specs.List.{range_with_len}
use Rattle.lrc_plan_meaning.specs.declared.Bound.TheVariants as b
use Rattle.lrc_plan.proofs.visits.push_earlier.Given as goal

abbrev pub invariant-visits : goal.invariant-visits
invariant-visits l = record {
  items : l.items ≡ l.initial.items ++ map (λ u. b.Kid l.symbol u l.visit) (range_with_len 1 (l.earlier - 1));
  within : l.earlier ≤ max 1 l.visit;
}
