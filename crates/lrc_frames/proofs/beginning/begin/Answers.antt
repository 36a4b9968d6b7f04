use Rattle.std.proofs.Common.{◌≡◌, ℕ, slice_get, subst, refl, sym}
use Rattle.std.specs.Prelude.{IfSome}
use Rattle.std.proofs.lemmas.Option.{slice_get_within}
use Rattle.lrc_grammar.specs.Grammar.{grammar_of}
use Rattle.lrc_store.proofs.Lasting.{reads-then}
use Rattle.lrc_plan.specs.Planned.{IsVisit}
use Rattle.lrc_plan.proofs.ReadLemmas.{if_some}
use Rattle.lrc_functions.specs.Functions.{function_of}
use Rattle.lrc_frames.specs.declared.body.Body.{Body}
use Rattle.lrc_frames.specs.Beginning.{IsOfNodeIf, HandedIf}
use Rattle.lrc_frames.proofs.BeginLemmas.{is_call_cell, call_read, hands_in, has_room, no_body, a_body}
use Rattle.lrc_frames.proofs.beginning.begin.Goals as goal

pub call_parts-parts-requires-clause-call : goal.call_parts-parts-requires-clause-call
call_parts-parts-requires-clause-call g c =
    let w = c.requires.call in is_call_cell (g.St.Store.state c.args.store.now) c.args.call.0 w.0 w.2

pub visited_production-requires : goal.visited_production-requires
visited_production-requires g c =
    let w = c.requires.call in
    (w.0, (call_read (g.St.Store.state c.args.store.now) (g.St.Store.state c.call_parts-parts.new.store) c.args.call.0 w.0 c.call_parts-parts.result w.2 c.call_parts-parts.ensures.parts).tree)

pub returns-in_default-clause-begins : goal.returns-in_default-clause-begins
returns-in_default-clause-begins g c call spelled stands =
    let plan = c.args.functions.now.plan in
    let read = call_read (g.St.Store.state c.args.store.now) (g.St.Store.state c.call_parts-parts.new.store) c.args.call.0 call c.call_parts-parts.result stands c.call_parts-parts.ensures.parts in
    subst (IsOfNodeIf (grammar_of plan.grammar) plan.parts.sorts call) c.in_default.is (c.visited_production.ensures.visited call read.tree read.visit)

pub returns-in_default-clause-reads : goal.returns-in_default-clause-reads
returns-in_default-clause-reads g c =
    reads-then (g.St.Store.state c.args.store.now) (g.St.Store.state c.call_parts-parts.new.store) (g.St.Store.state c.visited_production.new.store)
    c.call_parts-parts.ensures.reads c.visited_production.ensures.reads

pub function-function-requires-clause-production : goal.function-function-requires-clause-production
function-function-requires-clause-production g c =
    let w = c.requires.call in
    let plan = c.args.functions.now.plan in
    let read = call_read (g.St.Store.state c.args.store.now) (g.St.Store.state c.call_parts-parts.new.store) c.args.call.0 w.0 c.call_parts-parts.result w.2 c.call_parts-parts.ensures.parts in
    let at = c.in-Some.ensures.visited w.0 read.tree read.visit in
    slice_get_within plan.grammar.prods c.in-Some.production at.production at.there

pub function-function-requires-clause-visit : goal.function-function-requires-clause-visit
function-function-requires-clause-visit g c =
    let w = c.requires.call in
    let plan = c.args.functions.now.plan in
    let read = call_read (g.St.Store.state c.args.store.now) (g.St.Store.state c.call_parts-parts.new.store) c.args.call.0 w.0 c.call_parts-parts.result w.2 c.call_parts-parts.ensures.parts in
    let at = c.in-Some.ensures.visited w.0 read.tree read.visit in
    let visits : IsVisit plan.parts at.production w.0.visit = record { first = at.first; last = at.last } in
    if_some (λ p. IsVisit plan.parts p c.call_parts-parts.result.visit) (slice_get plan.grammar.prods c.in-Some.production) at.production at.there
    (subst (λ (v : ℕ). IsVisit plan.parts at.production v) (sym read.visit) visits)

pub signature-requires : goal.signature-requires
signature-requires g c =
    let w = c.requires.call in
    let plan = c.args.functions.now.plan in
    let read = call_read (g.St.Store.state c.args.store.now) (g.St.Store.state c.call_parts-parts.new.store) c.args.call.0 w.0 c.call_parts-parts.result w.2 c.call_parts-parts.ensures.parts in
    let at = c.in-Some.ensures.visited w.0 read.tree read.visit in
    slice_get_within plan.grammar.prods c.in-Some.production at.production at.there

pub hand_in-requires : goal.hand_in-requires
hand_in-requires g c =
    let w = c.requires.call in
    let functions = c.args.functions.now in
    let plan = functions.plan in
    let grammar = grammar_of plan.grammar in
    let s = g.St.Store.state c.call_parts-parts.new.store in
    let t = g.St.Store.state c.visited_production.new.store in
    let lists = c.call_parts-parts.result in
    let read = call_read (g.St.Store.state c.args.store.now) s c.args.call.0 w.0 lists w.2 c.call_parts-parts.ensures.parts in
    let at = c.in-Some.ensures.visited w.0 read.tree read.visit in
    let body : Body = record { production = c.in-Some.production; visit = lists.visit; tree = lists.tree } in
    let room = has_room grammar plan.parts.sorts functions.counts c.args.frame.now c.in-Some.production at.production functions.counted c.requires.room at.there in
    let found = c.function-function.result.now in
    let is_function = subst (λ (v : ℕ). IfSome (slice_get grammar.prods c.in-Some.production) (λ p. found ≡ function_of grammar.sorts plan.parts.sorts p v)) read.visit c.function-function.ensures in (
      grammar,
      plan.parts.sorts,
      body,
      at.production,
      at.kids,
      w.0,
      hands_in grammar plan.parts.sorts s t c.args.frame.now body w.0 at lists found c.signature.result.now c.len-occurrences.result read c.visited_production.ensures.reads.stays.lasts.known refl w.1 room
          is_function c.signature.ensures c.len-occurrences.ensures,
    )

pub returns-then-not-hand_in-clause-begins : goal.returns-then-not-hand_in-clause-begins
returns-then-not-hand_in-clause-begins g c call spelled stands =
    let functions = c.args.functions.now in
    let plan = functions.plan in
    let grammar = grammar_of plan.grammar in
    let s = g.St.Store.state c.call_parts-parts.new.store in
    let t = g.St.Store.state c.visited_production.new.store in
    let u = g.St.Store.state c.hand_in.new.store in
    let lists = c.call_parts-parts.result in
    let read = call_read (g.St.Store.state c.args.store.now) s c.args.call.0 call lists stands c.call_parts-parts.ensures.parts in
    let at = c.in-Some.ensures.visited call read.tree read.visit in
    let body : Body = record { production = c.in-Some.production; visit = lists.visit; tree = lists.tree } in
    let room = has_room grammar plan.parts.sorts functions.counts c.args.frame.now c.in-Some.production at.production functions.counted c.requires.room at.there in
    let found = c.function-function.result.now in
    let is_function = subst (λ (v : ℕ). IfSome (slice_get grammar.prods c.in-Some.production) (λ p. found ≡ function_of grammar.sorts plan.parts.sorts p v)) read.visit c.function-function.ensures in
    let hands = hands_in grammar plan.parts.sorts s t c.args.frame.now body call at lists found c.signature.result.now c.len-occurrences.result read c.visited_production.ensures.reads.stays.lasts.known refl spelled room
    is_function c.signature.ensures c.len-occurrences.ensures in
    no_body grammar plan.parts.sorts u c.hand_in.new.frame body call at
    (subst (HandedIf grammar plan.parts.sorts u c.hand_in.new.frame body at.production at.kids call) c.if-not-hand_in.true
    (c.hand_in.ensures.handed grammar plan.parts.sorts body at.production at.kids call hands))

pub returns-then-not-hand_in-clause-reads : goal.returns-then-not-hand_in-clause-reads
returns-then-not-hand_in-clause-reads g c =
    let o = g.St.Store.state c.args.store.now in
    let s = g.St.Store.state c.call_parts-parts.new.store in
    let t = g.St.Store.state c.visited_production.new.store in
    reads-then o t (g.St.Store.state c.hand_in.new.store) (reads-then o s t c.call_parts-parts.ensures.reads c.visited_production.ensures.reads) c.hand_in.ensures.reads

pub returns-clause-begins : goal.returns-clause-begins
returns-clause-begins g c call spelled stands =
    let functions = c.args.functions.now in
    let plan = functions.plan in
    let grammar = grammar_of plan.grammar in
    let s = g.St.Store.state c.call_parts-parts.new.store in
    let t = g.St.Store.state c.visited_production.new.store in
    let u = g.St.Store.state c.hand_in.new.store in
    let lists = c.call_parts-parts.result in
    let read = call_read (g.St.Store.state c.args.store.now) s c.args.call.0 call lists stands c.call_parts-parts.ensures.parts in
    let at = c.in-Some.ensures.visited call read.tree read.visit in
    let body : Body = record { production = c.in-Some.production; visit = lists.visit; tree = lists.tree } in
    let room = has_room grammar plan.parts.sorts functions.counts c.args.frame.now c.in-Some.production at.production functions.counted c.requires.room at.there in
    let found = c.function-function.result.now in
    let is_function = subst (λ (v : ℕ). IfSome (slice_get grammar.prods c.in-Some.production) (λ p. found ≡ function_of grammar.sorts plan.parts.sorts p v)) read.visit c.function-function.ensures in
    let hands = hands_in grammar plan.parts.sorts s t c.args.frame.now body call at lists found c.signature.result.now c.len-occurrences.result read c.visited_production.ensures.reads.stays.lasts.known refl spelled room
    is_function c.signature.ensures c.len-occurrences.ensures in
    a_body grammar plan.parts.sorts u c.hand_in.new.frame body call at read.visit
    (subst (HandedIf grammar plan.parts.sorts u c.hand_in.new.frame body at.production at.kids call) c.if-not-hand_in.false
    (c.hand_in.ensures.handed grammar plan.parts.sorts body at.production at.kids call hands))

pub returns-clause-reads : goal.returns-clause-reads
returns-clause-reads g c =
    let o = g.St.Store.state c.args.store.now in
    let s = g.St.Store.state c.call_parts-parts.new.store in
    let t = g.St.Store.state c.visited_production.new.store in
    reads-then o t (g.St.Store.state c.hand_in.new.store) (reads-then o s t c.call_parts-parts.ensures.reads c.visited_production.ensures.reads) c.hand_in.ensures.reads
