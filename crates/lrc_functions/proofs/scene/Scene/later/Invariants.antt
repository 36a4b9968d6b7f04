use Rattle.std.proofs.Common.{◌≡◌, ◌+◌, ◌-◌, ◌≤◌, max, map}
use Rattle.std.specs.List.{range_with_len}
use Rattle.lrc_plan_meaning.specs.declared.Bound.TheVariants as b
use Rattle.lrc_functions.specs.Numbers.{number}
use Rattle.lrc_functions.proofs.scene.Scene.later.Given as goal

abbrev pub invariant-visits : goal.invariant-visits
invariant-visits l = record {
  numbers : l.numbers ≡ map (λ w. number l.self.sorts.now l.self.parts.now l.self.production.now (b.Kid l.symbol l.visit w)) (range_with_len (l.visit + 1) (l.before - l.visit));
  within : l.before ≤ max l.visit l.visits;
}
