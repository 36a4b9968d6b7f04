use Rattle.std.proofs.Common.{◌≡◌, ◌+◌, ◌-◌, ◌++◌, ◌∷◌, [], List, ℕ, map, slice_get, sym, ap, ◌∙◌, arith}
use Rattle.lrc_base.specs.declared.grammar.Production.{Production}
use Rattle.lrc_base.specs.declared.grammar.Sort.{Sort}
use Rattle.lrc_order_meaning.specs.declared.Partition.{Partition}
use Rattle.lrc_plan_meaning.specs.declared.Bound.{Bound}
use Rattle.lrc_plan_meaning.specs.Bindings.{binding}
use Rattle.lrc_plan.proofs.ReadLemmas.{in_some}
use Rattle.lrc_plan.proofs.VisitLemmas.{row_more}
use Rattle.lrc_functions.specs.Numbers.{number_in, number}
use Rattle.lrc_functions.specs.Functions.{numbers}
use Rattle.lrc_functions.proofs.scene.Scene.handed_on.Goals as goal

pub visits-preserved : goal.visits-preserved
visits-preserved c =
    let scene = c.args.self.now in
    let plan = scene.plan.now in
    let p = scene.production.now in
    let low = c.visits.auto.before in
    let end = c.visits-test.true in
    let items : c.binding-items.result.now ≡ binding scene.sorts.now scene.parts.now p c.args.visit (c.visits.before + 1) =
    in_some (λ (q : Production). c.binding-items.result.now ≡ binding plan.grammar.sorts plan.parts.sorts q c.args.visit (c.visits.before + 1)) (slice_get plan.grammar.prods scene.number) p scene.there c.binding-items.ensures
    ∙ ap (λ (xs : List Sort). binding xs plan.parts.sorts p c.args.visit (c.visits.before + 1)) (sym scene.sorts_are)
    ∙ ap (λ (ys : List Partition). binding scene.sorts.now ys p c.args.visit (c.visits.before + 1)) (sym scene.parts_are) in
    let one : c.push.new.self ≡ c.visits.lists ++ numbers scene.sorts.now scene.parts.now p (binding scene.sorts.now scene.parts.now p c.args.visit (c.visits.before + 1)) ∷ [] =
    c.in_ok-push.ensures.ok
    ∙ ap (λ (x : List ℕ). c.visits.lists ++ x ∷ [])
    (c.in_ok-of_all.ensures
    ∙ ap (λ (rows : List (List ℕ)). map (number_in rows) c.as_slice.result.now) scene.numbered
    ∙ ap (λ (xs : List Bound). numbers scene.sorts.now scene.parts.now p xs) (c.as_slice.ensures ∙ items)) in
    record {
      lists = row_more (λ w. numbers scene.sorts.now scene.parts.now p (binding scene.sorts.now scene.parts.now p c.args.visit w)) [] c.visits.lists c.push.new.self (c.args.visit + 1) (c.visits.before - c.args.visit) (c.visits.before + 1) (c.visits.before + 1 - c.args.visit)
          c.visits.invariant.lists one (omega arith) (omega arith);
      within = omega arith;
    }
