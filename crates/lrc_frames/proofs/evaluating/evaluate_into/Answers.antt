use Rattle.std.proofs.Common.{◌<◌, length, rules}
use Rattle.lrc_grammar.specs.Grammar.{grammar_of}
use Rattle.lrc_frames.proofs.EquationLemmas.{inputs, no-equation, production-within, equation-within, equation-there}
use Rattle.lrc_frames.proofs.EvaluateLemmas.{evaluates-nothing, evaluates-none, evaluates-full, evaluates-some, occurrence-within}
use Rattle.lrc_frames.proofs.evaluating.evaluate_into.Goals as goal

pub returns-in_default-clause-evaluates : goal.returns-in_default-clause-evaluates
returns-in_default-clause-evaluates g c r can =
    let grammar = c.args.functions.now.plan.grammar in
    let gr = grammar_of grammar in
    let parts = c.args.functions.now.plan.parts.sorts in
    let s = g.St.Store.state c.args.store.now in
    evaluates-nothing gr parts s c.args.frame.now c.args.body c.args.occurrence c.args.equation r can (no-equation gr.sorts parts r.production c.args.occurrence c.args.equation can.occurrence can.operation c.in_default.is)

pub bounds-as_slice-body : goal.bounds-as_slice-body
bounds-as_slice-body g c =
    let grammar = c.args.functions.now.plan.grammar in
    let gr = grammar_of grammar in
    let parts = c.args.functions.now.plan.parts.sorts in
    let s = g.St.Store.state c.args.store.now in
    production-within gr parts grammar.ok grammar.few s c.args.frame.now c.args.body c.args.occurrence c.args.equation c.requires.0 c.requires.1 c.as_slice.result.now c.as_slice.ensures

pub offset_bounds-as_slice-number : goal.offset_bounds-as_slice-number
offset_bounds-as_slice-number g c =
    let grammar = c.args.functions.now.plan.grammar in
    let gr = grammar_of grammar in
    let parts = c.args.functions.now.plan.parts.sorts in
    let s = g.St.Store.state c.args.store.now in
    let within : c.in-Some.number < length c.as_slice-2.result.now = equation-within gr parts grammar.ok grammar.few s c.args.frame.now c.args.body c.args.occurrence c.args.equation c.requires.0 c.requires.1
    c.in-Some.number c.in-Some.is c.as_slice.result.now c.index-as_slice-body.result c.as_slice-2.result.now c.as_slice.ensures c.index-as_slice-body.is c.as_slice-2.ensures in
    search rules

pub bounds-as_slice-number : goal.bounds-as_slice-number
bounds-as_slice-number g c =
    let grammar = c.args.functions.now.plan.grammar in
    let gr = grammar_of grammar in
    let parts = c.args.functions.now.plan.parts.sorts in
    let s = g.St.Store.state c.args.store.now in
    equation-within gr parts grammar.ok grammar.few s c.args.frame.now c.args.body c.args.occurrence c.args.equation c.requires.0 c.requires.1
    c.in-Some.number c.in-Some.is c.as_slice.result.now c.index-as_slice-body.result c.as_slice-2.result.now c.as_slice.ensures c.index-as_slice-body.is c.as_slice-2.ensures

pub evaluate-requires : goal.evaluate-requires
evaluate-requires g c =
    let grammar = c.args.functions.now.plan.grammar in
    let gr = grammar_of grammar in
    let parts = c.args.functions.now.plan.parts.sorts in
    let s = g.St.Store.state c.args.store.now in
    let e = c.index-as_slice-number.result in
    let there = equation-there gr parts grammar.ok grammar.few s c.args.frame.now c.args.body c.args.occurrence c.args.equation c.requires.0 c.requires.1
    c.in-Some.number c.in-Some.is c.as_slice.result.now c.index-as_slice-body.result c.as_slice-2.result.now c.as_slice.ensures c.index-as_slice-body.is c.as_slice-2.ensures e c.index-as_slice-number.is in
    record { given = (inputs gr c.args.body c.requires.0, there.given) }

pub returns-in_err-value-clause-evaluates : goal.returns-in_err-value-clause-evaluates
returns-in_err-value-clause-evaluates g c r can =
    let grammar = c.args.functions.now.plan.grammar in
    let gr = grammar_of grammar in
    let parts = c.args.functions.now.plan.parts.sorts in
    let s = g.St.Store.state c.args.store.now in
    let e = c.index-as_slice-number.result in
    let there = equation-there gr parts grammar.ok grammar.few s c.args.frame.now c.args.body c.args.occurrence c.args.equation r can
    c.in-Some.number c.in-Some.is c.as_slice.result.now c.index-as_slice-body.result c.as_slice-2.result.now c.as_slice.ensures c.index-as_slice-body.is c.as_slice-2.ensures e c.index-as_slice-number.is in
    evaluates-full gr parts s c.args.frame.now c.args.body c.args.occurrence c.args.equation r can e there (g.St.Store.state c.evaluate.new.store) _ _ c.from_residual.ensures.0 c.in_err-value.ensures.evaluates

pub returns-in_default-2-clause-evaluates : goal.returns-in_default-2-clause-evaluates
returns-in_default-2-clause-evaluates g c r can =
    let grammar = c.args.functions.now.plan.grammar in
    let gr = grammar_of grammar in
    let parts = c.args.functions.now.plan.parts.sorts in
    let s = g.St.Store.state c.args.store.now in
    let e = c.index-as_slice-number.result in
    let there = equation-there gr parts grammar.ok grammar.few s c.args.frame.now c.args.body c.args.occurrence c.args.equation r can
    c.in-Some.number c.in-Some.is c.as_slice.result.now c.index-as_slice-body.result c.as_slice-2.result.now c.as_slice.ensures c.index-as_slice-body.is c.as_slice-2.ensures e c.index-as_slice-number.is in
    evaluates-none gr parts s c.args.frame.now c.args.body c.args.occurrence c.args.equation r can e there (g.St.Store.state c.evaluate.new.store) c.in_ok-value.field-0 c.in_default-2.is c.in_ok-value.ensures.evaluates

pub bounds-frame-occurrence : goal.bounds-frame-occurrence
bounds-frame-occurrence g c =
    let grammar = c.args.functions.now.plan.grammar in
    let gr = grammar_of grammar in
    let parts = c.args.functions.now.plan.parts.sorts in
    let s = g.St.Store.state c.args.store.now in
    occurrence-within gr parts s c.args.frame.now c.args.body c.args.occurrence c.args.equation c.requires.0 c.requires.1

pub returns-clause-evaluates : goal.returns-clause-evaluates
returns-clause-evaluates g c r can =
    let grammar = c.args.functions.now.plan.grammar in
    let gr = grammar_of grammar in
    let parts = c.args.functions.now.plan.parts.sorts in
    let s = g.St.Store.state c.args.store.now in
    let e = c.index-as_slice-number.result in
    let there = equation-there gr parts grammar.ok grammar.few s c.args.frame.now c.args.body c.args.occurrence c.args.equation r can
    c.in-Some.number c.in-Some.is c.as_slice.result.now c.index-as_slice-body.result c.as_slice-2.result.now c.as_slice.ensures c.index-as_slice-body.is c.as_slice-2.ensures e c.index-as_slice-number.is in
    evaluates-some gr parts s c.args.frame.now c.args.body c.args.occurrence c.args.equation r can e there (g.St.Store.state c.evaluate.new.store) c.in_ok-value.field-0 c.in-Some-2.value c.in-Some-2.is c.in_ok-value.ensures.evaluates
