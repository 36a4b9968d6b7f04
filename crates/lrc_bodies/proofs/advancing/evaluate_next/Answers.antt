use Rattle.lrc_grammar.specs.Grammar.{grammar_of}
use Rattle.lrc_bodies.proofs.AdvanceLemmas.{can_evaluate, evaluation_stopped, evaluation_none, evaluation_done}
use Rattle.lrc_bodies.proofs.advancing.evaluate_next.Goals as goal

pub evaluate_into-requires : goal.evaluate_into-requires
evaluate_into-requires g c =
    let f = c.args.functions.now in
    let q = c.requires in
    (q.2.runs.run, can_evaluate (grammar_of f.plan.grammar) f.plan.parts.sorts f.productions f.made (g.St.Store.state c.args.store.now) c.args.frame.now q.0 q.1 c.args.mark c.args.occurrence c.args.equation q.2)

pub returns-in_err-evaluate_into-clause-advances : goal.returns-in_err-evaluate_into-clause-advances
returns-in_err-evaluate_into-clause-advances g c fuel call faces =
    let f = c.args.functions.now in
    let gr = grammar_of f.plan.grammar in
    let parts = f.plan.parts.sorts in
    let s = g.St.Store.state c.args.store.now in
    let can = can_evaluate gr parts f.productions f.made s c.args.frame.now fuel call c.args.mark c.args.occurrence c.args.equation faces in
    evaluation_stopped gr parts f.productions f.made s c.args.frame.now fuel call c.args.mark c.args.occurrence c.args.equation faces (g.St.Store.state c.evaluate_into.new.store) c.evaluate_into.new.frame
    _ _ c.from_residual.ensures.0 (c.in_err-evaluate_into.ensures.evaluates faces.runs.run can)

pub returns-then-not-branch-clause-advances : goal.returns-then-not-branch-clause-advances
returns-then-not-branch-clause-advances g c fuel call faces =
    let f = c.args.functions.now in
    let gr = grammar_of f.plan.grammar in
    let parts = f.plan.parts.sorts in
    let s = g.St.Store.state c.args.store.now in
    let can = can_evaluate gr parts f.productions f.made s c.args.frame.now fuel call c.args.mark c.args.occurrence c.args.equation faces in
    evaluation_none gr parts f.productions f.made s c.args.frame.now fuel call c.args.mark c.args.occurrence c.args.equation faces (g.St.Store.state c.evaluate_into.new.store) c.evaluate_into.new.frame
    c.in_ok-evaluate_into.field-0 c.if-not-branch.true (c.in_ok-evaluate_into.ensures.evaluates faces.runs.run can)

pub returns-clause-advances : goal.returns-clause-advances
returns-clause-advances g c fuel call faces =
    let f = c.args.functions.now in
    let gr = grammar_of f.plan.grammar in
    let parts = f.plan.parts.sorts in
    let s = g.St.Store.state c.args.store.now in
    let can = can_evaluate gr parts f.productions f.made s c.args.frame.now fuel call c.args.mark c.args.occurrence c.args.equation faces in
    evaluation_done gr parts f.productions f.made s c.args.frame.now fuel call c.args.mark c.args.occurrence c.args.equation faces (g.St.Store.state c.evaluate_into.new.store) c.evaluate_into.new.frame
    c.in_ok-evaluate_into.field-0 c.if-not-branch.false (c.in_ok-evaluate_into.ensures.evaluates faces.runs.run can)
