use Rattle.std.proofs.Common.{◌≡◌, slice_get, sym, ap, ◌∙◌, arith, length}
use Rattle.lrc_grammar.specs.Grammar.{grammar_of}
use Rattle.lrc_plan.specs.Planned.{IsVisit}
use Rattle.lrc_plan.proofs.ReadLemmas.{if_some}
use Rattle.lrc_functions.specs.Functions.{callee_of}
use Rattle.lrc_bodies.proofs.ResumeLemmas.{no_evaluation, there, first, last, function_is, operation_within, operation_is, callee_is}
use Rattle.lrc_bodies.proofs.resuming.visit_at.Goals as goal

pub function-function-requires-clause-visit : goal.function-function-requires-clause-visit
function-function-requires-clause-visit c =
    let functions = c.args.functions.now in
    let plan = functions.plan in
    let grammar = grammar_of plan.grammar in
    let mark = c.args.mark in
    let q = c.requires in
    let w = q.5 in
    let visit : IsVisit plan.parts w.run.production mark.body.visit = record { first = first grammar plan.parts.sorts q.0 q.1 q.2 q.3 mark q.4 w; last = last grammar plan.parts.sorts q.0 q.1 q.2 q.3 mark q.4 w } in
    if_some (λ p. IsVisit plan.parts p mark.body.visit) (slice_get plan.grammar.prods mark.body.production) w.run.production (there grammar plan.parts.sorts q.0 q.1 q.2 q.3 mark q.4 w) visit

pub offset_bounds-as_slice-mark : goal.offset_bounds-as_slice-mark
offset_bounds-as_slice-mark c =
    let functions = c.args.functions.now in
    let plan = functions.plan in
    let grammar = grammar_of plan.grammar in
    let mark = c.args.mark in
    let q = c.requires in
    let w = q.5 in
    let found = c.function-function.result.now in
    let is = function_is grammar plan.parts.sorts q.0 q.1 q.2 q.3 mark q.4 w found c.function-function.ensures in
    let within = operation_within grammar plan.parts.sorts q.0 q.1 q.2 q.3 mark q.4 w found is in
    let size : length c.as_slice.result.now ≡ length found.operations = ap length c.as_slice.ensures in
    let fits = c.as_slice.type_inv.1 in
    omega (arith, within, size, fits)

pub bounds-as_slice-mark : goal.bounds-as_slice-mark
bounds-as_slice-mark c =
    let functions = c.args.functions.now in
    let plan = functions.plan in
    let grammar = grammar_of plan.grammar in
    let mark = c.args.mark in
    let q = c.requires in
    let w = q.5 in
    let found = c.function-function.result.now in
    let is = function_is grammar plan.parts.sorts q.0 q.1 q.2 q.3 mark q.4 w found c.function-function.ensures in
    let within = operation_within grammar plan.parts.sorts q.0 q.1 q.2 q.3 mark q.4 w found is in
    let size : length c.as_slice.result.now ≡ length found.operations = ap length c.as_slice.ensures in
    omega (arith, within, size)

pub unreachable-requires : goal.unreachable-requires
unreachable-requires c =
    let functions = c.args.functions.now in
    let plan = functions.plan in
    let grammar = grammar_of plan.grammar in
    let mark = c.args.mark in
    let q = c.requires in
    let w = q.5 in
    let found = c.function-function.result.now in
    let is = function_is grammar plan.parts.sorts q.0 q.1 q.2 q.3 mark q.4 w found c.function-function.ensures in
    no_evaluation c.in-Eval.field-0 c.in-Eval.field-1 (callee_of grammar.sorts plan.parts.sorts w.run.production w.symbol w.visit_there)
    (sym c.in-Eval.is ∙ operation_is grammar plan.parts.sorts q.0 q.1 q.2 q.3 mark q.4 w found c.as_slice.result.now c.index-as_slice-mark.result is c.as_slice.ensures c.index-as_slice-mark.is)

pub returns-clause-place : goal.returns-clause-place
returns-clause-place c =
    let functions = c.args.functions.now in
    let plan = functions.plan in
    let grammar = grammar_of plan.grammar in
    let mark = c.args.mark in
    let q = c.requires in
    let w = q.5 in
    let found = c.function-function.result.now in
    let is = function_is grammar plan.parts.sorts q.0 q.1 q.2 q.3 mark q.4 w found c.function-function.ensures in
    let within = operation_within grammar plan.parts.sorts q.0 q.1 q.2 q.3 mark q.4 w found is in
    let size : length c.as_slice.result.now ≡ length found.operations = ap length c.as_slice.ensures in
    let fits = c.as_slice.type_inv.1 in
    omega (arith, within, size, fits)

pub returns-clause-callee : goal.returns-clause-callee
returns-clause-callee c s frame fuel call d w =
    let functions = c.args.functions.now in
    let plan = functions.plan in
    let grammar = grammar_of plan.grammar in
    let mark = c.args.mark in
    let found = c.function-function.result.now in
    let is = function_is grammar plan.parts.sorts s frame fuel call mark d w found c.function-function.ensures in
    callee_is grammar plan.parts.sorts s frame fuel call mark d w found c.as_slice.result.now c.index-as_slice-mark.result c.in-Visit.callee is c.as_slice.ensures c.index-as_slice-mark.is c.in-Visit.is
