use Rattle.std.proofs.Common.{◌≡◌, ◌+◌, ◌-◌, ◌≤◌, max, ◌++◌, map}
use Rattle.std.specs.List.{range_with_len}
use Rattle.lrc_plan_meaning.specs.declared.Bound.TheVariants as b
use Rattle.lrc_plan.proofs.bindings.push_later_bindings.Given as goal

abbrev pub invariant-visits : goal.invariant-visits
invariant-visits l = record {
  items : l.items ≡ l.initial.items ++ map (b.Kid l.symbol l.from) (range_with_len (l.from + 1) (l.earlier - l.from));
  within : l.earlier ≤ max l.from l.visits;
}
