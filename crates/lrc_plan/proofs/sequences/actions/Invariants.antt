use Rattle.std.proofs.Common.{◌≡◌, map, take}
use Rattle.lrc_plan_meaning.specs.declared.Step.{Step}
use Rattle.lrc_plan.proofs.sequences.actions.Given as goal

abbrev pub invariant-steps : goal.invariant-steps
invariant-steps l = l.actions ≡ map (λ (s : Step). s.action) (take l.step-index l.steps)
