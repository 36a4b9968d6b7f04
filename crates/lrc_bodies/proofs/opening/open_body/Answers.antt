use Rattle.std.proofs.Common.{◌≡◌, ◌∙◌, suc, arith}
use Rattle.std.proofs.lemmas.Int.{ints}
use mir.Syntax.{w64}
use mir.Val.{to_z, of_z}
use Rattle.lrc_grammar.specs.Grammar.{grammar_of}
use Rattle.lrc_visit_meaning.specs.Demand.{reach}
use Rattle.lrc_store.proofs.Lasting.{stays-then, stays-gains}
use Rattle.lrc_call_meaning.specs.Reached.{cells_of}
use Rattle.lrc_call_meaning.specs.Forms.{call_form}
use Rattle.lrc_bodies.proofs.OpenLemmas.{kept_found, missed_one, opens_missed, not_low, asks_on, found_on, found_gives, found_high, found_result}
use Rattle.lrc_bodies.proofs.opening.open_body.Goals as goal

pub returns-then-is_low-clause-gains : goal.returns-then-is_low-clause-gains
returns-then-is_low-clause-gains g c call asks =
    let functions = c.args.functions.now in
    let s = g.St.Store.state c.args.store.now in
    let t = g.St.Store.state c.recall.new.self in
    let u = g.St.Store.state c.height_of.new.store in
    stays-gains s u (cells_of (reach (grammar_of functions.plan.grammar) functions.plan.parts.sorts (suc c.args.level) call)) (stays-then s t u c.recall.ensures.stays c.height_of.ensures.reads.stays)

pub returns-then-is_low-clause-opens : goal.returns-then-is_low-clause-opens
returns-then-is_low-clause-opens g c call asks =
    let functions = c.args.functions.now in
    let grammar = grammar_of functions.plan.grammar in
    let parts = functions.plan.parts in
    let meaning = g.St.Store.meaning c.args.store.now in
    let s = g.St.Store.state c.args.store.now in
    let t = g.St.Store.state c.recall.new.self in
    let u = g.St.Store.state c.height_of.new.store in
    let outcome = c.in-Found.outcome.0 in
    let found = found_result grammar parts (grammar_of meaning.grammar) meaning.parts c.requires.meaning.0 c.requires.meaning.1 s t call c.args.call.0 outcome c.recall.ensures.same_memo asks c.in-Found.ensures.answers in
    let kept = found_on grammar parts.sorts t u call outcome found.0 c.height_of.ensures.reads.stays.lasts c.height_of.ensures.reads.memo found.1 in
    let height = c.height_of.ensures.height found.0 found.1.stands in
    let fits = c.height_of.type_inv in
    let again : to_z w64 (of_z w64 c.height_of.result) ≡ c.height_of.result = omega (arith, ints, fits) in
    let low = c.is_low.ensures found.0.height (again ∙ height) in
    found_gives grammar parts.sorts u call outcome found.0 (suc c.args.level) kept (low.0 c.if-is_low.true)

pub returns-else-is_low-clause-gains : goal.returns-else-is_low-clause-gains
returns-else-is_low-clause-gains g c call asks =
    let functions = c.args.functions.now in
    let s = g.St.Store.state c.args.store.now in
    let t = g.St.Store.state c.recall.new.self in
    let u = g.St.Store.state c.height_of.new.store in
    stays-gains s u (cells_of (reach (grammar_of functions.plan.grammar) functions.plan.parts.sorts (suc c.args.level) call)) (stays-then s t u c.recall.ensures.stays c.height_of.ensures.reads.stays)

pub returns-else-is_low-clause-opens : goal.returns-else-is_low-clause-opens
returns-else-is_low-clause-opens g c call asks =
    let functions = c.args.functions.now in
    let grammar = grammar_of functions.plan.grammar in
    let parts = functions.plan.parts in
    let meaning = g.St.Store.meaning c.args.store.now in
    let s = g.St.Store.state c.args.store.now in
    let t = g.St.Store.state c.recall.new.self in
    let u = g.St.Store.state c.height_of.new.store in
    let outcome = c.in-Found.outcome.0 in
    let found = found_result grammar parts (grammar_of meaning.grammar) meaning.parts c.requires.meaning.0 c.requires.meaning.1 s t call c.args.call.0 outcome c.recall.ensures.same_memo asks c.in-Found.ensures.answers in
    let kept = found_on grammar parts.sorts t u call outcome found.0 c.height_of.ensures.reads.stays.lasts c.height_of.ensures.reads.memo found.1 in
    let height = c.height_of.ensures.height found.0 found.1.stands in
    let fits = c.height_of.type_inv in
    let again : to_z w64 (of_z w64 c.height_of.result) ≡ c.height_of.result = omega (arith, ints, fits) in
    let low = c.is_low.ensures found.0.height (again ∙ height) in
    found_high grammar parts.sorts u call outcome found.0 (suc c.args.level) kept (not_low c.is_low.result found.0.height (suc c.args.level) low c.if-is_low.false)

pub returns-in-Missed-clause-gains : goal.returns-in-Missed-clause-gains
returns-in-Missed-clause-gains g c call asks =
    let functions = c.args.functions.now in
    let s = g.St.Store.state c.args.store.now in
    let t = g.St.Store.state c.recall.new.self in
    let u = g.St.Store.state c.start_body.new.store in
    stays-gains s u (cells_of (reach (grammar_of functions.plan.grammar) functions.plan.parts.sorts (suc c.args.level) call)) (stays-then s t u c.recall.ensures.stays c.start_body.ensures.reads.stays)

pub returns-in-Missed-clause-opens : goal.returns-in-Missed-clause-opens
returns-in-Missed-clause-opens g c call asks =
    let functions = c.args.functions.now in
    let s = g.St.Store.state c.args.store.now in
    let t = g.St.Store.state c.recall.new.self in
    c.start_body.ensures.opens c.args.level call (asks_on (grammar_of functions.plan.grammar) functions.plan.parts.sorts s t call c.args.call.0 c.recall.ensures.stays.lasts.known asks)

pub returns-then-is_low-clause-counts : goal.returns-then-is_low-clause-counts
returns-then-is_low-clause-counts g c call asks =
    let found = c.in-Found.ensures.answers in
    kept_found (g.St.Store.state c.args.store.now) (g.St.Store.state c.recall.new.self) (g.St.Store.state c.height_of.new.store) c.recall.ensures.same_memo found.missed c.height_of.ensures.reads

pub returns-else-is_low-clause-counts : goal.returns-else-is_low-clause-counts
returns-else-is_low-clause-counts g c call asks = c.height_of.ensures.reads.memo ∙ c.recall.ensures.same_memo

pub returns-in-Missed-clause-counts : goal.returns-in-Missed-clause-counts
returns-in-Missed-clause-counts g c call asks =
    let s = g.St.Store.state c.args.store.now in
    let t = g.St.Store.state c.recall.new.self in
    let u = g.St.Store.state c.start_body.new.store in
    opens_missed s u (call_form call) c.start_body.result c.start_body.ensures.no_hit
    (missed_one s t u c.args.call.0 call asks.stands c.recall.ensures.same_memo c.in-Missed.ensures.answers c.start_body.ensures.reads)
