use Rattle.lrc_grammar.specs.Grammar.{grammar_of}
use Rattle.lrc_bodies.proofs.BodyLemmas.{visit_is_there, at_end, at_operation}
use Rattle.lrc_bodies.proofs.EndLemmas.{lacks_one}
use Rattle.lrc_bodies.proofs.advancing.advance_body.Goals as goal

pub function-function-requires-clause-visit : goal.function-function-requires-clause-visit
function-function-requires-clause-visit g c =
    let f = c.args.functions.now in
    let q = c.requires.body in
    visit_is_there (grammar_of f.plan.grammar) f.plan.parts f.productions f.made (g.St.Store.state c.args.store.now) c.args.frame.now c.args.level q.0 c.args.mark q.1

pub end_body-requires : goal.end_body-requires
end_body-requires g c =
    let f = c.args.functions.now in
    let gr = grammar_of f.plan.grammar in
    let q = c.requires.body in (
      gr,
      f.plan.parts.sorts,
      c.args.level,
      q.0,
      at_end gr f.plan.parts f.productions f.made (g.St.Store.state c.args.store.now) c.args.frame.now c.args.level q.0 c.args.mark q.1
          c.function-function.result.now c.function-function.ensures c.as_slice-operations.result.now c.as_slice-operations.ensures
          f.plan.ordered f.plan.grammar.few (g.St.Store.meaning c.args.store.now) c.requires.meaning.0 c.requires.meaning.1 c.if-operations-mark.true c.requires.low,
    )

pub returns-in_err-end_body-clause-gains : goal.returns-in_err-end_body-clause-gains
returns-in_err-end_body-clause-gains g c call runs =
    let f = c.args.functions.now in
    let gr = grammar_of f.plan.grammar in
    let end = at_end gr f.plan.parts f.productions f.made (g.St.Store.state c.args.store.now) c.args.frame.now c.args.level call c.args.mark runs
    c.function-function.result.now c.function-function.ensures c.as_slice-operations.result.now c.as_slice-operations.ensures
    f.plan.ordered f.plan.grammar.few (g.St.Store.meaning c.args.store.now) c.requires.meaning.0 c.requires.meaning.1 c.if-operations-mark.true c.requires.low in
    (c.in_err-end_body.ensures.ends gr f.plan.parts.sorts c.args.level call end).gains

pub returns-in_err-end_body-clause-full : goal.returns-in_err-end_body-clause-full
returns-in_err-end_body-clause-full g c call runs =
    let f = c.args.functions.now in
    let gr = grammar_of f.plan.grammar in
    let end = at_end gr f.plan.parts f.productions f.made (g.St.Store.state c.args.store.now) c.args.frame.now c.args.level call c.args.mark runs
    c.function-function.result.now c.function-function.ensures c.as_slice-operations.result.now c.as_slice-operations.ensures
    f.plan.ordered f.plan.grammar.few (g.St.Store.meaning c.args.store.now) c.requires.meaning.0 c.requires.meaning.1 c.if-operations-mark.true c.requires.low in
    lacks_one gr f.plan.parts.sorts (g.St.Store.state c.args.store.now) (g.St.Store.state c.end_body.new.store) c.args.level call _ c.from_residual.result (c.in_err-end_body.ensures.ends gr f.plan.parts.sorts c.args.level call end)

pub returns-then-operations-mark-clause-gains : goal.returns-then-operations-mark-clause-gains
returns-then-operations-mark-clause-gains g c call runs =
    let f = c.args.functions.now in
    let gr = grammar_of f.plan.grammar in
    let end = at_end gr f.plan.parts f.productions f.made (g.St.Store.state c.args.store.now) c.args.frame.now c.args.level call c.args.mark runs
    c.function-function.result.now c.function-function.ensures c.as_slice-operations.result.now c.as_slice-operations.ensures
    f.plan.ordered f.plan.grammar.few (g.St.Store.meaning c.args.store.now) c.requires.meaning.0 c.requires.meaning.1 c.if-operations-mark.true c.requires.low in
    (c.in_ok-end_body.ensures.ends gr f.plan.parts.sorts c.args.level call end).gains

pub returns-then-operations-mark-clause-moves : goal.returns-then-operations-mark-clause-moves
returns-then-operations-mark-clause-moves g c call runs =
    let f = c.args.functions.now in
    let gr = grammar_of f.plan.grammar in
    let end = at_end gr f.plan.parts f.productions f.made (g.St.Store.state c.args.store.now) c.args.frame.now c.args.level call c.args.mark runs
    c.function-function.result.now c.function-function.ensures c.as_slice-operations.result.now c.as_slice-operations.ensures
    f.plan.ordered f.plan.grammar.few (g.St.Store.meaning c.args.store.now) c.requires.meaning.0 c.requires.meaning.1 c.if-operations-mark.true c.requires.low in
    (c.in_ok-end_body.ensures.ends gr f.plan.parts.sorts c.args.level call end).gives

pub evaluate_next-requires : goal.evaluate_next-requires
evaluate_next-requires g c =
    let f = c.args.functions.now in
    let gr = grammar_of f.plan.grammar in
    let q = c.requires.body in
    let faces = at_operation gr f.plan.parts f.productions f.made (g.St.Store.state c.args.store.now) c.args.frame.now c.args.level q.0 c.args.mark q.1
    c.function-function.result.now c.function-function.ensures c.as_slice-operations.result.now c.as_slice-operations.ensures
    c.as_slice-operations.type_inv.0 c.if-operations-mark.false c.index-operations-mark.result _ c.index-operations-mark.is c.in-Eval.is in
    (c.args.level, q.0, faces)

pub visit_next-requires : goal.visit_next-requires
visit_next-requires g c =
    let f = c.args.functions.now in
    let gr = grammar_of f.plan.grammar in
    let q = c.requires.body in
    let faces = at_operation gr f.plan.parts f.productions f.made (g.St.Store.state c.args.store.now) c.args.frame.now c.args.level q.0 c.args.mark q.1
    c.function-function.result.now c.function-function.ensures c.as_slice-operations.result.now c.as_slice-operations.ensures
    c.as_slice-operations.type_inv.0 c.if-operations-mark.false c.index-operations-mark.result _ c.index-operations-mark.is c.in-Visit.is in
    (c.args.level, q.0, faces)

pub returns-in-Eval-clause-gains : goal.returns-in-Eval-clause-gains
returns-in-Eval-clause-gains g c call runs =
    let f = c.args.functions.now in
    let gr = grammar_of f.plan.grammar in
    let faces = at_operation gr f.plan.parts f.productions f.made (g.St.Store.state c.args.store.now) c.args.frame.now c.args.level call c.args.mark runs
    c.function-function.result.now c.function-function.ensures c.as_slice-operations.result.now c.as_slice-operations.ensures
    c.as_slice-operations.type_inv.0 c.if-operations-mark.false c.index-operations-mark.result _ c.index-operations-mark.is c.in-Eval.is in
    (c.evaluate_next.ensures.advances c.args.level call faces).gains

pub returns-in-Eval-clause-moves : goal.returns-in-Eval-clause-moves
returns-in-Eval-clause-moves g c call runs =
    let f = c.args.functions.now in
    let gr = grammar_of f.plan.grammar in
    let faces = at_operation gr f.plan.parts f.productions f.made (g.St.Store.state c.args.store.now) c.args.frame.now c.args.level call c.args.mark runs
    c.function-function.result.now c.function-function.ensures c.as_slice-operations.result.now c.as_slice-operations.ensures
    c.as_slice-operations.type_inv.0 c.if-operations-mark.false c.index-operations-mark.result _ c.index-operations-mark.is c.in-Eval.is in
    (c.evaluate_next.ensures.advances c.args.level call faces).moves

pub returns-in-Eval-clause-full : goal.returns-in-Eval-clause-full
returns-in-Eval-clause-full g c call runs =
    let f = c.args.functions.now in
    let gr = grammar_of f.plan.grammar in
    let faces = at_operation gr f.plan.parts f.productions f.made (g.St.Store.state c.args.store.now) c.args.frame.now c.args.level call c.args.mark runs
    c.function-function.result.now c.function-function.ensures c.as_slice-operations.result.now c.as_slice-operations.ensures
    c.as_slice-operations.type_inv.0 c.if-operations-mark.false c.index-operations-mark.result _ c.index-operations-mark.is c.in-Eval.is in
    (c.evaluate_next.ensures.advances c.args.level call faces).full

pub returns-in-Visit-clause-gains : goal.returns-in-Visit-clause-gains
returns-in-Visit-clause-gains g c call runs =
    let f = c.args.functions.now in
    let gr = grammar_of f.plan.grammar in
    let faces = at_operation gr f.plan.parts f.productions f.made (g.St.Store.state c.args.store.now) c.args.frame.now c.args.level call c.args.mark runs
    c.function-function.result.now c.function-function.ensures c.as_slice-operations.result.now c.as_slice-operations.ensures
    c.as_slice-operations.type_inv.0 c.if-operations-mark.false c.index-operations-mark.result _ c.index-operations-mark.is c.in-Visit.is in
    (c.visit_next.ensures.advances c.args.level call faces).gains

pub returns-in-Visit-clause-moves : goal.returns-in-Visit-clause-moves
returns-in-Visit-clause-moves g c call runs =
    let f = c.args.functions.now in
    let gr = grammar_of f.plan.grammar in
    let faces = at_operation gr f.plan.parts f.productions f.made (g.St.Store.state c.args.store.now) c.args.frame.now c.args.level call c.args.mark runs
    c.function-function.result.now c.function-function.ensures c.as_slice-operations.result.now c.as_slice-operations.ensures
    c.as_slice-operations.type_inv.0 c.if-operations-mark.false c.index-operations-mark.result _ c.index-operations-mark.is c.in-Visit.is in
    (c.visit_next.ensures.advances c.args.level call faces).moves

pub returns-in-Visit-clause-full : goal.returns-in-Visit-clause-full
returns-in-Visit-clause-full g c call runs =
    let f = c.args.functions.now in
    let gr = grammar_of f.plan.grammar in
    let faces = at_operation gr f.plan.parts f.productions f.made (g.St.Store.state c.args.store.now) c.args.frame.now c.args.level call c.args.mark runs
    c.function-function.result.now c.function-function.ensures c.as_slice-operations.result.now c.as_slice-operations.ensures
    c.as_slice-operations.type_inv.0 c.if-operations-mark.false c.index-operations-mark.result _ c.index-operations-mark.is c.in-Visit.is in
    (c.visit_next.ensures.advances c.args.level call faces).full

pub returns-in_err-end_body-clause-wholes : goal.returns-in_err-end_body-clause-wholes
returns-in_err-end_body-clause-wholes g c call runs =
    let f = c.args.functions.now in
    let gr = grammar_of f.plan.grammar in
    let end = at_end gr f.plan.parts f.productions f.made (g.St.Store.state c.args.store.now) c.args.frame.now c.args.level call c.args.mark runs
    c.function-function.result.now c.function-function.ensures c.as_slice-operations.result.now c.as_slice-operations.ensures
    f.plan.ordered f.plan.grammar.few (g.St.Store.meaning c.args.store.now) c.requires.meaning.0 c.requires.meaning.1 c.if-operations-mark.true c.requires.low in
    (c.in_err-end_body.ensures.ends gr f.plan.parts.sorts c.args.level call end).wholes

pub returns-then-operations-mark-clause-counts : goal.returns-then-operations-mark-clause-counts
returns-then-operations-mark-clause-counts g c call runs =
    let f = c.args.functions.now in
    let gr = grammar_of f.plan.grammar in
    let end = at_end gr f.plan.parts f.productions f.made (g.St.Store.state c.args.store.now) c.args.frame.now c.args.level call c.args.mark runs
    c.function-function.result.now c.function-function.ensures c.as_slice-operations.result.now c.as_slice-operations.ensures
    f.plan.ordered f.plan.grammar.few (g.St.Store.meaning c.args.store.now) c.requires.meaning.0 c.requires.meaning.1 c.if-operations-mark.true c.requires.low in
    (c.in_ok-end_body.ensures.ends gr f.plan.parts.sorts c.args.level call end).counts

pub returns-then-operations-mark-clause-wholes : goal.returns-then-operations-mark-clause-wholes
returns-then-operations-mark-clause-wholes g c call runs =
    let f = c.args.functions.now in
    let gr = grammar_of f.plan.grammar in
    let end = at_end gr f.plan.parts f.productions f.made (g.St.Store.state c.args.store.now) c.args.frame.now c.args.level call c.args.mark runs
    c.function-function.result.now c.function-function.ensures c.as_slice-operations.result.now c.as_slice-operations.ensures
    f.plan.ordered f.plan.grammar.few (g.St.Store.meaning c.args.store.now) c.requires.meaning.0 c.requires.meaning.1 c.if-operations-mark.true c.requires.low in
    (c.in_ok-end_body.ensures.ends gr f.plan.parts.sorts c.args.level call end).wholes

pub returns-in-Eval-clause-counts : goal.returns-in-Eval-clause-counts
returns-in-Eval-clause-counts g c call runs =
    let f = c.args.functions.now in
    let gr = grammar_of f.plan.grammar in
    let faces = at_operation gr f.plan.parts f.productions f.made (g.St.Store.state c.args.store.now) c.args.frame.now c.args.level call c.args.mark runs
    c.function-function.result.now c.function-function.ensures c.as_slice-operations.result.now c.as_slice-operations.ensures
    c.as_slice-operations.type_inv.0 c.if-operations-mark.false c.index-operations-mark.result _ c.index-operations-mark.is c.in-Eval.is in
    (c.evaluate_next.ensures.advances c.args.level call faces).counts

pub returns-in-Eval-clause-wholes : goal.returns-in-Eval-clause-wholes
returns-in-Eval-clause-wholes g c call runs =
    let f = c.args.functions.now in
    let gr = grammar_of f.plan.grammar in
    let faces = at_operation gr f.plan.parts f.productions f.made (g.St.Store.state c.args.store.now) c.args.frame.now c.args.level call c.args.mark runs
    c.function-function.result.now c.function-function.ensures c.as_slice-operations.result.now c.as_slice-operations.ensures
    c.as_slice-operations.type_inv.0 c.if-operations-mark.false c.index-operations-mark.result _ c.index-operations-mark.is c.in-Eval.is in
    (c.evaluate_next.ensures.advances c.args.level call faces).wholes

pub returns-in-Visit-clause-counts : goal.returns-in-Visit-clause-counts
returns-in-Visit-clause-counts g c call runs =
    let f = c.args.functions.now in
    let gr = grammar_of f.plan.grammar in
    let faces = at_operation gr f.plan.parts f.productions f.made (g.St.Store.state c.args.store.now) c.args.frame.now c.args.level call c.args.mark runs
    c.function-function.result.now c.function-function.ensures c.as_slice-operations.result.now c.as_slice-operations.ensures
    c.as_slice-operations.type_inv.0 c.if-operations-mark.false c.index-operations-mark.result _ c.index-operations-mark.is c.in-Visit.is in
    (c.visit_next.ensures.advances c.args.level call faces).counts

pub returns-in-Visit-clause-wholes : goal.returns-in-Visit-clause-wholes
returns-in-Visit-clause-wholes g c call runs =
    let f = c.args.functions.now in
    let gr = grammar_of f.plan.grammar in
    let faces = at_operation gr f.plan.parts f.productions f.made (g.St.Store.state c.args.store.now) c.args.frame.now c.args.level call c.args.mark runs
    c.function-function.result.now c.function-function.ensures c.as_slice-operations.result.now c.as_slice-operations.ensures
    c.as_slice-operations.type_inv.0 c.if-operations-mark.false c.index-operations-mark.result _ c.index-operations-mark.is c.in-Visit.is in
    (c.visit_next.ensures.advances c.args.level call faces).wholes
