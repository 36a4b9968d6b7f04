use Rattle.std.proofs.Common.{refl, suc}
use Rattle.lrc_grammar.specs.Grammar.{grammar_of}
use Rattle.lrc_bodies.specs.declared.mark.Mark.{Mark}
use Rattle.lrc_bodies.proofs.HitLemmas.{no_body}
use Rattle.lrc_bodies.proofs.OpenLemmas.{left_few, asks_on, starts}
use Rattle.lrc_bodies.proofs.opening.start_body.Goals as goal

pub returns-in-Some-clause-opens : goal.returns-in-Some-clause-opens
returns-in-Some-clause-opens g c fuel call asks =
    let functions = c.args.functions.now in
    let grammar = grammar_of functions.plan.grammar in
    let t = g.St.Store.state c.begin.new.store in
    let mark : Mark = record { call = c.args.call; body = c.in-Some.body; at = 0; height = 0 } in
    let kept = asks_on grammar functions.plan.parts.sorts (g.St.Store.state c.args.store.now) t call c.args.call.0 c.begin.ensures.reads.stays.lasts.known asks in (
      starts grammar functions.plan.parts.sorts t c.begin.new.frame fuel call mark kept refl refl (c.in-Some.ensures.begins call asks.spelled asks.stands),
      left_few functions.productions mark,
    )

pub returns-in-None-clause-opens : goal.returns-in-None-clause-opens
returns-in-None-clause-opens g c fuel call asks =
    let functions = c.args.functions.now in
    no_body (grammar_of functions.plan.grammar) functions.plan.parts.sorts call (c.in-None.ensures.begins call asks.spelled asks.stands) (suc fuel)
