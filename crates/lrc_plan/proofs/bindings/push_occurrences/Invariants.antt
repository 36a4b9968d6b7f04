use Rattle.std.proofs.Common.{◌≡◌, ◌++◌, map}
use Rattle.std.specs.List.{range_with_len}
use Rattle.lrc_plan_meaning.specs.declared.Bound.TheVariants as b
use Rattle.lrc_plan.proofs.bindings.push_occurrences.Given as goal

abbrev pub invariant-occurrences : goal.invariant-occurrences
invariant-occurrences l = l.items ≡ l.initial.items ++ map b.Value (range_with_len 0 l.occurrence)
