use Rattle.std.proofs.Common.{◌+◌, ◌<◌, true, List, get_or, All, sym, subst, inl, refl, arith}
use Rattle.lrc_plan_meaning.specs.Items.{visits_of, values_of_visit}
use Rattle.lrc_plan.specs.declared.waiting.Waiting.{Waiting}
use Rattle.lrc_plan.specs.ItemSets.{HasRoom}
use Rattle.lrc_plan.proofs.SegmentLemmas.{left_grown, starts_left, starts, found_more, all_found}
use Rattle.lrc_plan.proofs.SiteLemmas.{values_fit, makes_fit}
use Rattle.lrc_plan.proofs.segments.segments.Goals as goal

pub visits-init : goal.visits-init
visits-init c =
    let site = c.args.site.now in
    let sorts = site.sorts.now in
    let parts = site.parts.now in
    let p = site.production.now in
    let available = c.in_ok-available.available in
    let fit = makes_fit sorts parts p c.args.shape.now c.requires.shape available c.in_ok-available.ensures.room site.behind site.below in
    let room = subst (λ (ws : List Waiting). All (λ (w : Waiting). All (HasRoom available) w.step.makes) ws) (sym c.requires.actions) fit in
    record {
      left = starts_left sorts parts p available c.args.left.items c.requires.actions room;
      room = λ x h. h;
      found = starts sorts parts p available c.args.left.items c.new-segments.result c.requires.actions c.in_ok-available.ensures.empty c.new-segments.ensures;
    }

pub insert_values-requires : goal.insert_values-requires
insert_values-requires c =
    let site = c.args.site.now in
    let sorts = site.sorts.now in
    let parts = site.parts.now in
    let p = site.production.now in
    let v = c.visits.earlier + 1 in
    let values = values_of_visit sorts parts true p.left 0 v in
    λ i d less.
    c.visits.invariant.room (get_or values i d)
    (values_fit sorts parts p c.args.shape.now c.requires.shape c.in_ok-available.available c.in_ok-available.ensures.room true v i d less)

pub segment-requires : goal.segment-requires
segment-requires c =
    left_grown c.visits.available c.insert_values.new.set c.visits.left.items c.visits.invariant.left
    (λ x h. (c.in_ok-insert_values.ensures.items x).1 (inl h)) c.in_ok-insert_values.ensures.room

pub visits-preserved : goal.visits-preserved
visits-preserved c =
    let site = c.args.site.now in
    let sorts = site.sorts.now in
    let parts = site.parts.now in
    let p = site.production.now in
    let less : c.visits.earlier < visits_of parts p.left = subst (λ n. c.visits.earlier < n) c.visits_of-earlier-end.ensures c.visits-test.true in
    record {
      left = c.in_ok-segment.ensures.left;
      room = λ x h. c.in_ok-segment.ensures.room x (c.in_ok-insert_values.ensures.room x (c.visits.invariant.room x h));
      found = found_more sorts parts p c.visits.available c.insert_values.new.set c.segment.new.available c.visits.left.items c.segment.new.left.items
          c.visits.segments c.push.new.self c.in_ok-segment.field-0 c.visits.earlier (c.visits.earlier + 1) less refl
          c.visits.invariant.found c.in_ok-insert_values.ensures.items (c.in_ok-segment.ensures.steps sorts parts p) c.in_ok-push.ensures.ok;
    }

pub returns : goal.returns
returns c =
    let end = c.visits-test.false in
    all_found c.args.site.now.sorts.now c.args.site.now.parts.now c.args.site.now.production.now c.visits.available c.visits.left.items c.visits.segments c.visits.earlier
    (omega (arith, c.visits_of-earlier-end.ensures)) c.visits.invariant.found
