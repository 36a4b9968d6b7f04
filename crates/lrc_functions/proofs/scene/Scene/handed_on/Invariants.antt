use Rattle.std.proofs.Common.{◌≡◌, ◌+◌, ◌-◌, ◌≤◌, max, map}
use Rattle.std.specs.List.{range_with_len}
use Rattle.lrc_plan_meaning.specs.Bindings.{binding}
use Rattle.lrc_functions.specs.Functions.{numbers}
use Rattle.lrc_functions.proofs.scene.Scene.handed_on.Given as goal

abbrev pub invariant-visits : goal.invariant-visits
invariant-visits l = record {
  lists : l.lists ≡ map (λ w. numbers l.self.sorts.now l.self.parts.now l.self.production.now (binding l.self.sorts.now l.self.parts.now l.self.production.now l.visit w)) (range_with_len (l.visit + 1) (l.before - l.visit));
  within : l.before ≤ max l.visit l.visits;
}
