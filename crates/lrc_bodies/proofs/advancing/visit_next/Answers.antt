use Rattle.lrc_grammar.specs.Grammar.{grammar_of}
use Rattle.lrc_bodies.proofs.AdvanceLemmas.{symbol, visit, can_call, call_stopped, call_none, call_made}
use Rattle.lrc_bodies.proofs.advancing.visit_next.Goals as goal

pub make_call-requires : goal.make_call-requires
make_call-requires g c =
    let f = c.args.functions.now in
    let gr = grammar_of f.plan.grammar in
    let parts = f.plan.parts.sorts in
    let s = g.St.Store.state c.args.store.now in
    let q = c.requires in (
      q.2.runs.run,
      symbol gr parts f.productions f.made s c.args.frame.now q.0 q.1 c.args.mark c.args.callee.now q.2,
      visit gr parts f.productions f.made s c.args.frame.now q.0 q.1 c.args.mark c.args.callee.now q.2,
      can_call gr parts f.productions f.made s c.args.frame.now q.0 q.1 c.args.mark c.args.callee.now q.2,
    )

pub returns-in_err-call-clause-advances : goal.returns-in_err-call-clause-advances
returns-in_err-call-clause-advances g c fuel asked faces =
    let f = c.args.functions.now in
    let gr = grammar_of f.plan.grammar in
    let parts = f.plan.parts.sorts in
    let s = g.St.Store.state c.args.store.now in
    let can = can_call gr parts f.productions f.made s c.args.frame.now fuel asked c.args.mark c.args.callee.now faces in
    call_stopped gr parts f.productions f.made s c.args.frame.now fuel asked c.args.mark c.args.callee.now faces (g.St.Store.state c.make_call.new.store)
    _ _ c.from_residual.ensures.0 (c.in_err-call.ensures.calls _ _ _ can)

pub returns-in-Some-clause-advances : goal.returns-in-Some-clause-advances
returns-in-Some-clause-advances g c fuel asked faces =
    let f = c.args.functions.now in
    let gr = grammar_of f.plan.grammar in
    let parts = f.plan.parts.sorts in
    let s = g.St.Store.state c.args.store.now in
    let can = can_call gr parts f.productions f.made s c.args.frame.now fuel asked c.args.mark c.args.callee.now faces in
    call_made gr parts f.productions f.made s c.args.frame.now fuel asked c.args.mark c.args.callee.now faces (g.St.Store.state c.make_call.new.store)
    c.in_ok-call.field-0 c.in-Some.call c.in-Some.is (c.in_ok-call.ensures.calls _ _ _ can)

pub returns-in-None-clause-advances : goal.returns-in-None-clause-advances
returns-in-None-clause-advances g c fuel asked faces =
    let f = c.args.functions.now in
    let gr = grammar_of f.plan.grammar in
    let parts = f.plan.parts.sorts in
    let s = g.St.Store.state c.args.store.now in
    let can = can_call gr parts f.productions f.made s c.args.frame.now fuel asked c.args.mark c.args.callee.now faces in
    call_none gr parts f.productions f.made s c.args.frame.now fuel asked c.args.mark c.args.callee.now faces (g.St.Store.state c.make_call.new.store)
    c.in_ok-call.field-0 c.in-None.is (c.in_ok-call.ensures.calls _ _ _ can)
