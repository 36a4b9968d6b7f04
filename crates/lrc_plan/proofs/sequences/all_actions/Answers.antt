use Rattle.std.proofs.Common.{map, ◌∙◌, ap}
use Rattle.lrc_plan_meaning.specs.declared.Step.{Step}
use Rattle.lrc_plan.proofs.BindingLemmas.{mapped_more}
use Rattle.lrc_plan.proofs.sequences.all_actions.Goals as goal

pub segments-preserved : goal.segments-preserved
segments-preserved c =
    mapped_more (map (λ (s : Step). s.action)) c.args.segments.now c.segments.steps-index c.steps-item.result c.segments.lists c.push.new.self c.in_ok-actions.field-0
    c.segments-test.true c.steps-item.is c.segments.invariant c.in_ok-push.ensures.ok (c.in_ok-actions.ensures ∙ ap (map (λ (s : Step). s.action)) c.as_slice.ensures)
