use Rattle.std.proofs.Common.{◌<◌, List, length, [], All, sym, subst, ◌∙◌, arith}
use Rattle.std.proofs.lemmas.List.{get_or_default, take_all}
use Rattle.lrc_plan_meaning.specs.declared.Step.{Step}
use Rattle.lrc_plan.specs.Gaining.{IsIn, used_by, AreSetsOf}
use Rattle.lrc_plan.proofs.BindingLemmas.{steps_number}
use Rattle.lrc_plan.proofs.GainLemmas.{sets_more}
use Rattle.lrc_plan.proofs.SiteLemmas.{needs_in}
use Rattle.lrc_plan.proofs.gaining.all_used.Goals as goal

pub bounds-segments-earlier : goal.bounds-segments-earlier
bounds-segments-earlier c =
    let site = c.args.site.now in
    let number = steps_number site.sorts.now site.parts.now site.production.now c.args.segments.now c.requires.segments in
    let end = c.visits_of-earlier-end.ensures in
    let less = c.visits-test.true in
    omega arith

pub used-requires-clause-needs : goal.used-requires-clause-needs
used-requires-clause-needs c =
    let site = c.args.site.now in
    let segments = c.args.segments.now in
    let i = c.visits.earlier in
    let number = steps_number site.sorts.now site.parts.now site.production.now segments c.requires.segments in
    let end = c.visits_of-earlier-end.ensures in
    let less = c.visits-test.true in
    let there : i < length segments = omega arith in
    subst (All (λ (s : Step). All (IsIn c.args.shape.now) s.needs))
    (sym (c.as_slice-steps.ensures ∙ c.index-segments-earlier.is ∙ get_or_default segments i c.index-segments-earlier.result [] there))
    (needs_in site.sorts.now site.parts.now site.production.now site.behind site.below c.args.shape.now c.requires.shape segments c.requires.segments i there)

pub visits-preserved : goal.visits-preserved
visits-preserved c =
    let site = c.args.site.now in
    let segments = c.args.segments.now in
    let i = c.visits.earlier in
    let number = steps_number site.sorts.now site.parts.now site.production.now segments c.requires.segments in
    let end = c.visits_of-earlier-end.ensures in
    let less = c.visits-test.true in
    let there : i < length segments = omega arith in
    sets_more (used_by site.sorts.now site.parts.now site.production.now.left) segments c.visits.sets.items c.push.new.self.items c.in_ok-used.field-0 i
    c.as_slice-steps.result.now there
    (c.as_slice-steps.ensures ∙ c.index-segments-earlier.is ∙ get_or_default segments i c.index-segments-earlier.result [] there)
    c.visits.invariant c.in_ok-push.ensures.items c.in_ok-used.ensures

pub returns : goal.returns
returns c =
    let site = c.args.site.now in
    let segments = c.args.segments.now in
    let number = steps_number site.sorts.now site.parts.now site.production.now segments c.requires.segments in
    let end = c.visits_of-earlier-end.ensures in
    let ended = c.visits-test.false in
    subst (λ (xs : List (List Step)). AreSetsOf (used_by site.sorts.now site.parts.now site.production.now.left) xs c.visits.sets.items)
    (take_all c.visits.earlier segments (omega arith)) c.visits.invariant
