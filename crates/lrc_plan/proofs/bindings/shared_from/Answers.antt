use Rattle.std.proofs.Common.{◌≡◌, ◌+◌, ◌-◌, ◌++◌, ◌∷◌, [], List, length, map, ap, ◌∙◌, arith}
use Rattle.std.specs.Prelude.{slice_index_or}
use Rattle.std.specs.List.{range_with_len}
use Rattle.lrc_plan_meaning.specs.declared.Bound.{Bound}
use Rattle.std.proofs.lemmas.List.{get_or_default}
use Rattle.lrc_plan.specs.ItemSets.{Flags}
use Rattle.lrc_plan.specs.Handing.{shared, no_items}
use Rattle.lrc_plan.proofs.VisitLemmas.{row_more}
use Rattle.lrc_plan.proofs.bindings.shared_from.Goals as goal

pub visits-preserved : goal.visits-preserved
visits-preserved c =
    let items = c.args.items.now in
    let used = c.args.used.now in
    let gained = c.args.gained.now in
    let low = c.visits.auto.visit in
    let d = c.index-used-visit.result in
    let one : c.push.new.self ≡ c.visits.lists ++ shared items gained (slice_index_or used c.visits.visit no_items) ∷ [] =
    c.in_ok-push.ensures.ok ∙ ap (λ (x : List Bound). c.visits.lists ++ x ∷ [])
    (c.in_ok-shared.ensures ∙ ap (λ (set : Flags). shared items gained set) (c.index-used-visit.is ∙ get_or_default used c.visits.visit d no_items c.visits-test.true)) in
    record {
      lists = row_more (λ w. shared items gained (slice_index_or used w no_items)) [] c.visits.lists c.push.new.self c.args.first (c.visits.visit - c.args.first) c.visits.visit
          (c.visits.visit + 1 - c.args.first) c.visits.invariant.lists one (omega arith) (omega arith);
      within = omega arith;
    }

pub returns : goal.returns
returns c =
    let items = c.args.items.now in
    let used = c.args.used.now in
    let gained = c.args.gained.now in
    let end = c.visits-test.false in
    let low = c.visits.auto.visit in
    let within = c.visits.invariant.within in
    let e : c.visits.visit - c.args.first ≡ length used - c.args.first = omega arith in
    c.visits.invariant.lists ∙ ap (λ n. map (λ w. shared items gained (slice_index_or used w no_items)) (range_with_len c.args.first n)) e
