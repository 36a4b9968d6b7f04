use Rattle.std.proofs.Common.{◌≡◌, ◌+◌, ◌-◌, ◌≤◌, max, ◌++◌, map}
use Rattle.std.specs.List.{range_with_len}
use Rattle.lrc_plan_meaning.specs.declared.Bound.TheVariants as b
use Rattle.lrc_plan.proofs.visits.push_later.Given as goal

abbrev pub invariant-visits : goal.invariant-visits
invariant-visits l = record {
  items : l.items ≡ l.initial.items ++ map (λ w. b.Kid l.symbol l.visit w) (range_with_len (l.visit + 1) (l.earlier - l.visit));
  within : l.earlier ≤ max l.visit l.visits;
}
