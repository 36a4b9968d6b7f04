use Rattle.std.proofs.Common.{◌++◌, List, subst, true, arith}
use Rattle.std.specs.Prelude.{flat_map}
use Rattle.std.proofs.lemmas.List.{take_all}
use Rattle.lrc_plan_meaning.specs.declared.Step.{Step}
use Rattle.lrc_plan_meaning.specs.Items.{values_of_visit}
use Rattle.lrc_plan.proofs.GainLemmas.{Grows, grows_twice, set_of, steps_more}
use Rattle.lrc_plan.proofs.SiteLemmas.{values_fit}
use Rattle.lrc_plan.proofs.gaining.gained.Goals as goal

pub insert_values-requires : goal.insert_values-requires
insert_values-requires c =
    let site = c.args.site.now in values_fit site.sorts.now site.parts.now site.production.now c.args.shape.now c.requires.shape c.in_ok-set.set c.in_ok-set.ensures.room true c.args.visit

pub steps-preserved : goal.steps-preserved
steps-preserved c = record {
  items = steps_more (λ (s : Step). s.makes) c.args.steps.now c.steps.step-index c.step-item.result c.steps-test.true c.step-item.is
      c.insert_values.new.set c.steps.set c.insert_all.new.self c.as_slice.result.now c.steps.invariant.items c.insert_all.ensures.items c.as_slice.ensures;
  room = λ x h. c.insert_all.ensures.room x (c.steps.invariant.room x h);
}

pub returns : goal.returns
returns c =
    let end = c.steps-test.false in
    let steps = c.args.steps.now in
    let values = values_of_visit c.args.site.now.sorts.now c.args.site.now.parts.now true c.args.site.now.production.now.left 0 c.args.visit in
    let f = c.in_ok-set.set in
    let g = c.insert_values.new.set in
    let h = c.steps.set in
    let all = take_all c.steps.step-index steps (omega arith) in
    set_of f h (values ++ flat_map (λ (s : Step). s.makes) steps) c.in_ok-set.ensures.empty
    (grows_twice f g h values (flat_map (λ (s : Step). s.makes) steps) c.in_ok-insert_values.ensures.items
    (subst (λ (xs : List Step). Grows g h (flat_map (λ (s : Step). s.makes) xs)) all c.steps.invariant.items))
