use Rattle.std.proofs.Common.{◌≡◌, slice_get, ap, ◌∙◌}
use Rattle.lrc_plan_meaning.specs.declared.Sequences.{Sequences}
use Rattle.lrc_plan_meaning.specs.Plans.{sequences_of, bindings_from, bindings_of}
use Rattle.lrc_plan_meaning.specs.Bindings.{binding}
use Rattle.lrc_plan_meaning.specs.Items.{visits_of}
use Rattle.lrc_plan.specs.Planned.{IsVisit}
use Rattle.lrc_plan.proofs.ReadLemmas.{found_at, if_some, in_some, bindings_within, later_read, later_within, binding_read}
use Rattle.lrc_plan.proofs.sequenced.Plan.binding.Goals as goal

pub bounds-as_slice-from : goal.bounds-as_slice-from
bounds-as_slice-from c =
    let plan = c.args.self.now in
    let sorts = plan.grammar.sorts in
    let parts = plan.parts.sorts in
    let i = c.args.production in
    let p = found_at plan.grammar.prods i c.requires.production in
    let from = in_some (λ q. IsVisit plan.parts q c.args.from) (slice_get plan.grammar.prods i) p.0 p.1 c.requires.from in
    let to = in_some (λ q. IsVisit plan.parts q c.args.to) (slice_get plan.grammar.prods i) p.0 p.1 c.requires.to in
    let found = in_some (λ q. c.sequences.result.now ≡ sequences_of sorts parts q) (slice_get plan.grammar.prods i) p.0 p.1 c.sequences.ensures in
    let all : c.as_slice.result.now ≡ bindings_of sorts parts p.0 = c.as_slice.ensures ∙ ap (λ (s : Sequences). s.bindings) found in
    bindings_within sorts parts p.0 c.as_slice.result.now c.args.from all from.first from.last

pub bounds-later-to : goal.bounds-later-to
bounds-later-to c =
    let plan = c.args.self.now in
    let sorts = plan.grammar.sorts in
    let parts = plan.parts.sorts in
    let i = c.args.production in
    let p = found_at plan.grammar.prods i c.requires.production in
    let from = in_some (λ q. IsVisit plan.parts q c.args.from) (slice_get plan.grammar.prods i) p.0 p.1 c.requires.from in
    let to = in_some (λ q. IsVisit plan.parts q c.args.to) (slice_get plan.grammar.prods i) p.0 p.1 c.requires.to in
    let found = in_some (λ q. c.sequences.result.now ≡ sequences_of sorts parts q) (slice_get plan.grammar.prods i) p.0 p.1 c.sequences.ensures in
    let all : c.as_slice.result.now ≡ bindings_of sorts parts p.0 = c.as_slice.ensures ∙ ap (λ (s : Sequences). s.bindings) found in
    let later : c.as_slice-later.result.now ≡ bindings_from sorts parts p.0 (visits_of parts p.0.left) c.args.from =
    c.as_slice-later.ensures ∙ later_read sorts parts p.0 c.as_slice.result.now c.args.from c.index-as_slice-from.result all from.first from.last c.index-as_slice-from.is in
    later_within sorts parts p.0 c.args.from c.args.to c.as_slice-later.result.now later c.requires.later to.last

pub returns : goal.returns
returns c =
    let plan = c.args.self.now in
    let sorts = plan.grammar.sorts in
    let parts = plan.parts.sorts in
    let i = c.args.production in
    let p = found_at plan.grammar.prods i c.requires.production in
    let from = in_some (λ q. IsVisit plan.parts q c.args.from) (slice_get plan.grammar.prods i) p.0 p.1 c.requires.from in
    let to = in_some (λ q. IsVisit plan.parts q c.args.to) (slice_get plan.grammar.prods i) p.0 p.1 c.requires.to in
    let found = in_some (λ q. c.sequences.result.now ≡ sequences_of sorts parts q) (slice_get plan.grammar.prods i) p.0 p.1 c.sequences.ensures in
    let all : c.as_slice.result.now ≡ bindings_of sorts parts p.0 = c.as_slice.ensures ∙ ap (λ (s : Sequences). s.bindings) found in
    let later : c.as_slice-later.result.now ≡ bindings_from sorts parts p.0 (visits_of parts p.0.left) c.args.from =
    c.as_slice-later.ensures ∙ later_read sorts parts p.0 c.as_slice.result.now c.args.from c.index-as_slice-from.result all from.first from.last c.index-as_slice-from.is in
    if_some (λ q. c.index-later-to.result ≡ binding sorts parts q c.args.from c.args.to) (slice_get plan.grammar.prods i) p.0 p.1
    (binding_read sorts parts p.0 c.args.from c.args.to c.as_slice-later.result.now c.index-later-to.result later c.requires.later to.last c.index-later-to.is)
