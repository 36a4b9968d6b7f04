use Rattle.std.proofs.Common.{◌≡◌, None, subst}
use Rattle.lrc_grammar.specs.Grammar.{grammar_of}
use Rattle.lrc_visit_meaning.specs.Visits.{plain_visit}
use Rattle.lrc_visit_meaning.specs.Demand.{reach}
use Rattle.lrc_call_meaning.specs.Reached.{cells_of}
use Rattle.lrc_machine.specs.Machine.{Stops}
use Rattle.lrc_visit.proofs.SoundLemmas.{can_ask}
use Rattle.lrc_visit.proofs.visits.visit.Goals as goal

pub run-requires-clause-call : goal.run-requires-clause-call
run-requires-clause-call g c =
    let asked = c.requires.call in
    (asked.0, can_ask c.args.functions.now (g.St.Store.state c.args.store.now) asked.0 c.args.call.0 asked.1)

pub returns-in-Ok-clause-gains : goal.returns-in-Ok-clause-gains
returns-in-Ok-clause-gains g c call asked =
    c.run.ensures.gains call (can_ask c.args.functions.now (g.St.Store.state c.args.store.now) call c.args.call.0 asked)

pub returns-in-Ok-clause-gives : goal.returns-in-Ok-clause-gives
returns-in-Ok-clause-gives g c call asked =
    c.in-Ok.ensures.gives call (can_ask c.args.functions.now (g.St.Store.state c.args.store.now) call c.args.call.0 asked)

pub returns-in-Err-Full-clause-gains : goal.returns-in-Err-Full-clause-gains
returns-in-Err-Full-clause-gains g c call asked =
    c.run.ensures.gains call (can_ask c.args.functions.now (g.St.Store.state c.args.store.now) call c.args.call.0 asked)

pub returns-in-Err-Full-clause-full : goal.returns-in-Err-Full-clause-full
returns-in-Err-Full-clause-full g c call asked is =
    let grammar = grammar_of c.args.functions.now.plan.grammar in
    let sorts = c.args.functions.now.plan.parts.sorts in
    subst (Stops (g.St.Store.state c.run.new.store) (cells_of (reach grammar sorts c.args.fuel call)) (plain_visit grammar sorts c.args.fuel call ≡ None)) c.in-Err-Full.field-0-is
    (c.in-Err-Full.ensures.stops call (can_ask c.args.functions.now (g.St.Store.state c.args.store.now) call c.args.call.0 asked))

pub returns-in-Err-Deep-clause-gains : goal.returns-in-Err-Deep-clause-gains
returns-in-Err-Deep-clause-gains g c call asked =
    c.run.ensures.gains call (can_ask c.args.functions.now (g.St.Store.state c.args.store.now) call c.args.call.0 asked)

pub returns-in-Err-Deep-clause-too_deep : goal.returns-in-Err-Deep-clause-too_deep
returns-in-Err-Deep-clause-too_deep g c call asked is =
    let grammar = grammar_of c.args.functions.now.plan.grammar in
    let sorts = c.args.functions.now.plan.parts.sorts in
    subst (Stops (g.St.Store.state c.run.new.store) (cells_of (reach grammar sorts c.args.fuel call)) (plain_visit grammar sorts c.args.fuel call ≡ None)) c.in-Err-Deep.field-0-is
    (c.in-Err-Deep.ensures.stops call (can_ask c.args.functions.now (g.St.Store.state c.args.store.now) call c.args.call.0 asked))

pub returns-in-Ok-clause-counted : goal.returns-in-Ok-clause-counted
returns-in-Ok-clause-counted g c call asked whole =
    c.in-Ok.ensures.counted call (can_ask c.args.functions.now (g.St.Store.state c.args.store.now) call c.args.call.0 asked) whole
