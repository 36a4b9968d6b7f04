use Rattle.std.proofs.Common.{◌≡◌, ◌+◌, ◌++◌, ◌∷◌, [], List, ap, ◌∙◌, arith}
use Rattle.std.specs.Prelude.{slice_index_or}
use Rattle.lrc_plan_meaning.specs.declared.Bound.{Bound}
use Rattle.std.proofs.lemmas.List.{get_or_default}
use Rattle.lrc_plan.specs.ItemSets.{Flags}
use Rattle.lrc_plan.specs.Handing.{shared_from, no_items}
use Rattle.lrc_plan.proofs.VisitLemmas.{row_more}
use Rattle.lrc_plan.proofs.bindings.bindings.Goals as goal

pub visits-preserved : goal.visits-preserved
visits-preserved c =
    let items = c.args.items.now in
    let used = c.args.used.now in
    let gained = c.args.gained.now in
    let one : c.push.new.self ≡ c.visits.lists ++ shared_from items (slice_index_or gained c.visits.visit no_items) used (c.visits.visit + 1) ∷ [] =
    c.in_ok-push.ensures.ok ∙ ap (λ (x : List (List Bound)). c.visits.lists ++ x ∷ [])
    (c.in_ok-shared_from.ensures
    ∙ ap (λ (set : Flags). shared_from items set used (c.visits.visit + 1)) (c.index-gained-visit.is ∙ get_or_default gained c.visits.visit c.index-gained-visit.result no_items c.visits-test.true)) in
    row_more (λ v. shared_from items (slice_index_or gained v no_items) used (v + 1)) [] c.visits.lists c.push.new.self 0 c.visits.visit c.visits.visit
    (c.visits.visit + 1) c.visits.invariant one (omega arith) (omega arith)
