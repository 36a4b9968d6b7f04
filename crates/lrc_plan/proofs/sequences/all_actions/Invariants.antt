use Rattle.std.proofs.Common.{◌≡◌, map, take}
use Rattle.lrc_plan_meaning.specs.declared.Step.{Step}
use Rattle.lrc_plan.proofs.sequences.all_actions.Given as goal

abbrev pub invariant-segments : goal.invariant-segments
invariant-segments l = l.lists ≡ map (map (λ (s : Step). s.action)) (take l.steps-index l.segments)
