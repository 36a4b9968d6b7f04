use Rattle.std.proofs.Common.{◌≡◌, List, map, refl, ap, ◌∙◌}
use Rattle.lrc_base.specs.declared.grammar.Sort.{Sort}
use Rattle.lrc_base.specs.declared.grammar.Production.{Production}
use Rattle.lrc_order_meaning.specs.declared.Partition.{Partition}
use Rattle.lrc_order_meaning.specs.declared.Place.{Place}
use Rattle.lrc_order_meaning.specs.Needs.{symbols_of}
use Rattle.lrc_plan_meaning.specs.declared.Action.{Action}
use Rattle.lrc_plan_meaning.specs.declared.Bound.{Bound}
use Rattle.lrc_plan_meaning.specs.declared.Step.{Step}
use Rattle.lrc_plan_meaning.specs.Plans.{step_of, bindings_of, sequences_of}
use Rattle.lrc_plan_meaning.specs.Sequences.{segments_of}
use Rattle.lrc_plan.proofs.BindingLemmas.{actions_same}
use Rattle.lrc_plan.proofs.sequences.sequences_at.Goals as goal

made : (sorts : List Sort) (parts : List Partition) (p : Production) (symbols : List Place) (actions : List (List Action)) (steps given : List (List Step)) (bindings : List (List (List Bound)))
    → symbols ≡ symbols_of sorts p → steps ≡ map (map (step_of sorts parts p)) (segments_of sorts parts p) → given ≡ steps → actions ≡ map (map (λ (s : Step). s.action)) given
    → bindings ≡ bindings_of sorts parts p → record { symbols = symbols; actions = actions; steps = steps; bindings = bindings } ≡ sequences_of sorts parts p
made sorts parts p symbols actions steps given bindings found are lent acts bound =
    let done : actions ≡ segments_of sorts parts p = acts ∙ ap (map (map (λ (s : Step). s.action))) lent ∙ actions_same sorts parts p steps are in
    rw (found, done, are, bound) refl

pub returns : goal.returns
returns c =
    let site = c.args.site.now in
    made site.sorts.now site.parts.now site.production.now c.in_ok-from_slice.field-0 c.in_ok-all_actions.field-0 c.in_ok-steps.steps c.as_slice-2.result.now c.in_ok-bindings.bindings
    (c.in_ok-from_slice.ensures ∙ c.symbols.ensures) c.in_ok-steps.ensures c.as_slice-2.ensures c.in_ok-all_actions.ensures c.in_ok-bindings.ensures
