use Rattle.std.proofs.Common.{◌≡◌, List, slice_get, get_or, ap, ◌∙◌}
use Rattle.lrc_plan.specs.Planned.{IsVisit}
use Rattle.lrc_plan.proofs.ReadLemmas.{found_at, if_some, in_some}
use Rattle.lrc_functions.specs.declared.function.Function.{Function}
use Rattle.lrc_functions.specs.Functions.{function_of, functions_of}
use Rattle.lrc_functions.proofs.FunctionLemmas.{production_read, visit_within, visit_read}
use Rattle.lrc_functions.proofs.functions.Functions.function.Goals as goal

pub bounds-as_slice-visit : goal.bounds-as_slice-visit
bounds-as_slice-visit c =
    let functions = c.args.self.now in
    let plan = functions.plan in
    let i = c.args.production in
    let p = found_at plan.grammar.prods i c.requires.production in
    let visit = in_some (λ q. IsVisit plan.parts q c.args.visit) (slice_get plan.grammar.prods i) p.0 p.1 c.requires.visit in
    let found = c.index-as_slice-production.result in
    let read = production_read plan.grammar.sorts plan.parts.sorts plan.grammar.prods functions.productions i p.0 found p.1 functions.made c.requires.production p.2
    (c.index-as_slice-production.is ∙ ap (λ (xs : List (List Function)). get_or xs i found) c.as_slice.ensures) in
    visit_within plan.grammar.sorts plan.parts.sorts p.0 c.as_slice-2.result.now c.args.visit (c.as_slice-2.ensures ∙ read) visit.first visit.last

pub returns : goal.returns
returns c =
    let functions = c.args.self.now in
    let plan = functions.plan in
    let i = c.args.production in
    let p = found_at plan.grammar.prods i c.requires.production in
    let visit = in_some (λ q. IsVisit plan.parts q c.args.visit) (slice_get plan.grammar.prods i) p.0 p.1 c.requires.visit in
    let found = c.index-as_slice-production.result in
    let read = production_read plan.grammar.sorts plan.parts.sorts plan.grammar.prods functions.productions i p.0 found p.1 functions.made c.requires.production p.2
    (c.index-as_slice-production.is ∙ ap (λ (xs : List (List Function)). get_or xs i found) c.as_slice.ensures) in
    let result = c.index-as_slice-visit.result in
    if_some (λ q. result ≡ function_of plan.grammar.sorts plan.parts.sorts q c.args.visit) (slice_get plan.grammar.prods i) p.0 p.1
    (visit_read plan.grammar.sorts plan.parts.sorts p.0 c.as_slice-2.result.now c.args.visit result (c.as_slice-2.ensures ∙ read) visit.first visit.last c.index-as_slice-visit.is)
