use Rattle.std.proofs.Common.{◌≡◌, ◌+◌, ◌-◌, List, map, slice_get, sym, ap, ◌∙◌}
use Rattle.std.specs.List.{range_with_len}
use Rattle.lrc_base.specs.declared.grammar.Production.{Production}
use Rattle.lrc_base.specs.declared.grammar.Sort.{Sort}
use Rattle.lrc_order_meaning.specs.declared.Partition.{Partition}
use Rattle.lrc_plan_meaning.specs.declared.Action.{Action}
use Rattle.lrc_plan_meaning.specs.Sequences.{segment}
use Rattle.lrc_plan_meaning.specs.Bindings.{binding}
use Rattle.lrc_plan.proofs.ReadLemmas.{in_some}
use Rattle.lrc_functions.specs.Functions.{numbers, operation_of}
use Rattle.lrc_functions.proofs.FunctionLemmas.{same_function}
use Rattle.lrc_functions.proofs.functions.function.Goals as goal

pub returns : goal.returns
returns c =
    let scene = c.args.scene.now in
    let plan = scene.plan.now in
    let p = scene.production.now in
    let visit = c.args.visit in
    let actions : c.actions-actions.result.now ≡ segment scene.sorts.now scene.parts.now p visit =
    in_some (λ (q : Production). c.actions-actions.result.now ≡ segment plan.grammar.sorts plan.parts.sorts q visit) (slice_get plan.grammar.prods scene.number) p scene.there c.actions-actions.ensures
    ∙ ap (λ (xs : List Sort). segment xs plan.parts.sorts p visit) (sym scene.sorts_are)
    ∙ ap (λ (ys : List Partition). segment scene.sorts.now ys p visit) (sym scene.parts_are) in
    same_function c.in_ok-values.ensures c.in_ok-handed_in.ensures
    (c.in_ok-operations.ensures ∙ ap (λ (xs : List Action). map (operation_of scene.sorts.now scene.parts.now p) xs) (c.as_slice.ensures ∙ actions))
    c.in_ok-values-2.ensures
    (c.in_ok-handed_on.ensures
    ∙ ap (λ n. map (λ w. numbers scene.sorts.now scene.parts.now p (binding scene.sorts.now scene.parts.now p visit w)) (range_with_len (visit + 1) (n - visit))) c.visits_of.ensures)
