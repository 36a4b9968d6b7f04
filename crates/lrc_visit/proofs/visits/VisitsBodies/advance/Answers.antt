use Rattle.std.proofs.Common.{◌∙◌, ◌≤◌, IfOk, length, drop, sym, subst, ap}
use Rattle.std.proofs.lemmas.List.{take_at}
use Rattle.lrc_grammar.specs.Grammar.{grammar_of}
use Rattle.lrc_bodies.specs.Bodies.{Runs}
use Rattle.lrc_bodies.specs.Advancing.{MovesOn}
use Rattle.lrc_visit.proofs.visits.VisitsBodies.advance.Goals as goal

pub returns-clause-room : goal.returns-clause-room
returns-clause-room g c n counts =
    let items = c.args.frame.now.items in
    let new = c.advance_body.new.frame in
    let written = take_at new (drop (length new) items) c.args.frame.now.len (c.advance_body.ensures.room ∙ c.deref_mut.ensures.len) in
    let most = c.requires.room n counts in
    subst (λ l. n ≤ l) (ap length (sym c.deref_mut.ensures.value) ∙ sym c.advance_body.ensures.room ∙ ap length (sym written)) most

pub returns-clause-gains : goal.returns-clause-gains
returns-clause-gains g c call runs =
    let functions = c.args.self.now.functions.now in
    c.advance_body.ensures.gains call (subst (λ frame. Runs (grammar_of functions.plan.grammar) functions.plan.parts.sorts (g.St.Store.state c.args.store.now) frame c.args.level call c.args.mark) (sym c.deref_mut.ensures.value) runs)

pub returns-clause-moves : goal.returns-clause-moves
returns-clause-moves g c call runs =
    let functions = c.args.self.now.functions.now in
    let grammar = grammar_of functions.plan.grammar in
    let sorts = functions.plan.parts.sorts in
    let items = c.args.frame.now.items in
    let new = c.advance_body.new.frame in
    let written = take_at new (drop (length new) items) c.args.frame.now.len (c.advance_body.ensures.room ∙ c.deref_mut.ensures.len) in
    let moves = c.advance_body.ensures.moves call (subst (λ frame. Runs grammar sorts (g.St.Store.state c.args.store.now) frame c.args.level call c.args.mark) (sym c.deref_mut.ensures.value) runs) in
    subst (λ frame. IfOk c.advance_body.result (MovesOn grammar sorts functions.productions (g.St.Store.state c.advance_body.new.store) frame c.args.level call c.args.mark)) (sym written) moves

pub returns-clause-counts : goal.returns-clause-counts
returns-clause-counts g c call runs =
    let functions = c.args.self.now.functions.now in
    c.advance_body.ensures.counts call (subst (λ frame. Runs (grammar_of functions.plan.grammar) functions.plan.parts.sorts (g.St.Store.state c.args.store.now) frame c.args.level call c.args.mark) (sym c.deref_mut.ensures.value) runs)

pub returns-clause-wholes : goal.returns-clause-wholes
returns-clause-wholes g c call runs =
    let functions = c.args.self.now.functions.now in
    c.advance_body.ensures.wholes call (subst (λ frame. Runs (grammar_of functions.plan.grammar) functions.plan.parts.sorts (g.St.Store.state c.args.store.now) frame c.args.level call c.args.mark) (sym c.deref_mut.ensures.value) runs)
