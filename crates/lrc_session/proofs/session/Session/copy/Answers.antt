use Rattle.std.proofs.Common.{refl}
use Rattle.lrc_visit_meaning.specs.Values.{root_call}
use Rattle.lrc_session.proofs.CopyEditLemmas.{copy_refused, copy_unvisited, copy_edited, copy_counted}
use Rattle.lrc_session.proofs.session.Session.copy.Goals as goal

pub returns-in_err-call-clause-copies : goal.returns-in_err-call-clause-copies
returns-in_err-call-clause-copies g c whole vs has =
    let functions = c.args.functions.now in
    let s = g.St.Store.state c.args.store.now in
    let t = g.St.Store.state c.propose_copy.new.store in
    let from = c.args.from.now.steps in
    let to = c.args.to.now.steps in
    let mid = c.propose_copy.new.self in
    copy_refused functions s t whole vs c.args.self.now mid from to c.in_err-call.field-0.0 c.from_residual.result c.from_residual.ensures.1 (c.in_err-call.ensures.proposes whole vs has)

pub returns-in_err-given-clause-copies : goal.returns-in_err-given-clause-copies
returns-in_err-given-clause-copies g c whole vs has =
    let functions = c.args.functions.now in
    let s = g.St.Store.state c.args.store.now in
    let t = g.St.Store.state c.propose_copy.new.store in
    let from = c.args.from.now.steps in
    let to = c.args.to.now.steps in
    let mid = c.propose_copy.new.self in
    let u = g.St.Store.state c.visit.new.store in
    let visited = c.in_err-given.ensures in
    copy_unvisited functions s t whole vs c.args.self.now mid from to c.in_ok-call.call u (λ attempt there. visited.gains (root_call attempt) there.asked) _ refl refl refl visited.levels visited.stack
    c.in_err-given.field-0.0 c.from_residual-in_err-given.result c.from_residual-in_err-given.ensures.1
    (λ attempt there. visited.full (root_call attempt) there.asked) (λ attempt there. visited.too_deep (root_call attempt) there.asked) (c.in_ok-call.ensures.proposes whole vs has)

pub returns-clause-copies : goal.returns-clause-copies
returns-clause-copies g c whole vs has =
    let functions = c.args.functions.now in
    let s = g.St.Store.state c.args.store.now in
    let t = g.St.Store.state c.propose_copy.new.store in
    let from = c.args.from.now.steps in
    let to = c.args.to.now.steps in
    let mid = c.propose_copy.new.self in
    let u = g.St.Store.state c.visit.new.store in
    let v = g.St.Store.state c.settle.new.store in
    let visited = c.in_ok-given.ensures in
    copy_edited functions s t whole vs c.args.self.now mid from to c.in_ok-call.call u (λ attempt there. visited.gains (root_call attempt) there.asked) v c.in_ok-given.given.0 _ c.settle.new.self
    c.settle.ensures.reads c.settle.ensures.depth (λ attempt there. visited.gives (root_call attempt) there.asked) c.settle.ensures.settles (c.in_ok-call.ensures.proposes whole vs has)

pub returns-clause-counted : goal.returns-clause-counted
returns-clause-counted g c whole new vs has there is_whole =
    let functions = c.args.functions.now in
    let s = g.St.Store.state c.args.store.now in
    let t = g.St.Store.state c.propose_copy.new.store in
    let from = c.args.from.now.steps in
    let to = c.args.to.now.steps in
    let mid = c.propose_copy.new.self in
    let u = g.St.Store.state c.visit.new.store in
    let v = g.St.Store.state c.settle.new.store in
    copy_counted functions s t whole vs c.args.self.now mid from to c.in_ok-call.call u v new c.settle.ensures.reads there is_whole
    (λ attempt asked. c.in_ok-given.ensures.counted (root_call attempt) asked.asked) (c.in_ok-call.ensures.proposes whole vs has)
