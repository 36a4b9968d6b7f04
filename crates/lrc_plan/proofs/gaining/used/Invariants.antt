use Rattle.std.proofs.Common.{◌↔◌, ◌⊎◌, IsTrue, Contains, take}
use Rattle.std.specs.Prelude.{flat_map}
use Rattle.lrc_plan_meaning.specs.declared.Bound as sequence
use Rattle.lrc_plan_meaning.specs.declared.Step.{Step}
use Rattle.lrc_plan.specs.ItemSets.{holds, HasRoom}
use Rattle.lrc_plan.proofs.gaining.used.Given as goal

abbrev pub invariant-steps : goal.invariant-steps
invariant-steps l = record {
  items : (x : sequence.Bound) → IsTrue (holds l.set x) ↔ (IsTrue (holds l.initial.set x) ⊎ Contains (flat_map (λ (s : Step). s.needs) (take l.step-index l.steps)) x);
  room : (x : sequence.Bound) → HasRoom l.initial.set x → HasRoom l.set x;
}
