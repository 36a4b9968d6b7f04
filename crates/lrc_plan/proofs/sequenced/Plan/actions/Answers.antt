use Rattle.std.proofs.Common.{◌≡◌, slice_get, ap, ◌∙◌}
use Rattle.lrc_plan_meaning.specs.declared.Sequences.{Sequences}
use Rattle.lrc_plan_meaning.specs.Plans.{sequences_of}
use Rattle.lrc_plan_meaning.specs.Sequences.{segment}
use Rattle.lrc_plan.specs.Planned.{IsVisit}
use Rattle.lrc_plan.proofs.ReadLemmas.{found_at, if_some, in_some, actions_within, actions_read}
use Rattle.lrc_plan.proofs.sequenced.Plan.actions.Goals as goal

pub bounds-as_slice-visit : goal.bounds-as_slice-visit
bounds-as_slice-visit c =
    let plan = c.args.self.now in
    let p = found_at plan.grammar.prods c.args.production c.requires.production in
    let visit = in_some (λ q. IsVisit plan.parts q c.args.visit) (slice_get plan.grammar.prods c.args.production) p.0 p.1 c.requires.visit in
    let found = in_some (λ q. c.sequences.result.now ≡ sequences_of plan.grammar.sorts plan.parts.sorts q) (slice_get plan.grammar.prods c.args.production) p.0 p.1 c.sequences.ensures in
    actions_within plan.grammar.sorts plan.parts.sorts p.0 c.as_slice.result.now c.args.visit (c.as_slice.ensures ∙ ap (λ (s : Sequences). s.actions) found) visit.first visit.last

pub returns : goal.returns
returns c =
    let plan = c.args.self.now in
    let p = found_at plan.grammar.prods c.args.production c.requires.production in
    let visit = in_some (λ q. IsVisit plan.parts q c.args.visit) (slice_get plan.grammar.prods c.args.production) p.0 p.1 c.requires.visit in
    let found = in_some (λ q. c.sequences.result.now ≡ sequences_of plan.grammar.sorts plan.parts.sorts q) (slice_get plan.grammar.prods c.args.production) p.0 p.1 c.sequences.ensures in
    if_some (λ q. c.index-as_slice-visit.result ≡ segment plan.grammar.sorts plan.parts.sorts q c.args.visit) (slice_get plan.grammar.prods c.args.production) p.0 p.1
    (actions_read plan.grammar.sorts plan.parts.sorts p.0 c.as_slice.result.now c.args.visit c.index-as_slice-visit.result (c.as_slice.ensures ∙ ap (λ (s : Sequences). s.actions) found) visit.first visit.last c.index-as_slice-visit.is)
