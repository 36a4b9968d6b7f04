use Rattle.std.proofs.Common.{◌≡◌, ◌-◌, ◌≤◌, max, map}
use Rattle.std.specs.List.{range_with_len}
use Rattle.lrc_plan_meaning.specs.Bindings.{binding}
use Rattle.lrc_functions.specs.Functions.{numbers}
use Rattle.lrc_functions.proofs.scene.Scene.handed_in.Given as goal

abbrev pub invariant-visits : goal.invariant-visits
invariant-visits l = record {
  lists : l.lists ≡ map (λ u. numbers l.self.sorts.now l.self.parts.now l.self.production.now (binding l.self.sorts.now l.self.parts.now l.self.production.now u l.visit)) (range_with_len 1 (l.from - 1));
  within : l.from ≤ max 1 l.visit;
}
