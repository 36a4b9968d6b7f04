use Rattle.std.proofs.Common.{◌≡◌, ◌-◌, ◌≤◌, max, map}
use Rattle.std.specs.List.{range_with_len}
use Rattle.lrc_plan_meaning.specs.declared.Bound.TheVariants as b
use Rattle.lrc_functions.specs.Numbers.{number}
use Rattle.lrc_functions.proofs.scene.Scene.earlier.Given as goal

abbrev pub invariant-visits : goal.invariant-visits
invariant-visits l = record {
  numbers : l.numbers ≡ map (λ u. number l.self.sorts.now l.self.parts.now l.self.production.now (b.Kid l.symbol u l.visit)) (range_with_len 1 (l.from - 1));
  within : l.from ≤ max 1 l.visit;
}
