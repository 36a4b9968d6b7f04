use Rattle.std.proofs.Common.{refl}
use Rattle.lrc_meaning.specs.Tree.{tree}
use Rattle.lrc_visit_meaning.specs.Values.{root_call}
use Rattle.lrc_session.specs.declared.fault.EditFault.TheVariants as edit
use Rattle.lrc_session.proofs.SessionLemmas.{visited_frames}
use Rattle.lrc_session.proofs.EditLemmas.{changed, refused, asked, unvisited, asked_on, edited}
use Rattle.lrc_session.proofs.FaultLemmas.{same_refusal}
use Rattle.lrc_session.proofs.session.Session.put.Goals as goal

pub returns-in_err-call-clause-edits : goal.returns-in_err-call-clause-edits
returns-in_err-call-clause-edits g c whole vs has =
    let put = c.args.put.now in
    refused c.args.functions.now (g.St.Store.state c.args.store.now) (g.St.Store.state c.propose_put.new.store) whole vs c.args.self.now c.propose_put.new.self put.path.now.steps (tree put.term.now) put.kind
    c.in_err-call.field-0.0 c.from_residual.result c.from_residual.ensures.1 (c.in_err-call.ensures.proposes whole vs has)

pub returns-in_err-given-clause-edits : goal.returns-in_err-given-clause-edits
returns-in_err-given-clause-edits g c whole vs has =
    let functions = c.args.functions.now in
    let s = g.St.Store.state c.args.store.now in
    let t = g.St.Store.state c.propose_put.new.store in
    let u = g.St.Store.state c.visit.new.store in
    let put = c.args.put.now in
    let steps = put.path.now.steps in
    let new = tree put.term.now in
    let before = c.args.self.now in
    let mid = c.propose_put.new.self in
    let first = c.in_ok-call.ensures.proposes whole vs has in
    let call = root_call (changed functions s t whole vs before mid steps new put.kind) in
    let there = asked functions s t whole vs before mid steps new put.kind c.in_ok-call.call first in
    let visited = c.in_err-given.ensures in
    unvisited functions s t whole vs before mid steps new put.kind c.in_ok-call.call first u _ (visited.gains call there.asked) refl refl refl
    (visited_frames functions mid.frames c.visit.new.frames mid.depth visited.levels visited.stack first.is_open.frames)
    c.in_err-given.field-0.0 c.from_residual-in_err-given.result c.from_residual-in_err-given.ensures.1 (visited.full call there.asked) (visited.too_deep call there.asked)

pub settle-requires-clause-call : goal.settle-requires-clause-call
settle-requires-clause-call g c =
    let functions = c.args.functions.now in
    let s = g.St.Store.state c.args.store.now in
    let t = g.St.Store.state c.propose_put.new.store in
    let u = g.St.Store.state c.visit.new.store in
    let put = c.args.put.now in
    let steps = put.path.now.steps in
    let new = tree put.term.now in
    let before = c.args.self.now in
    let mid = c.propose_put.new.self in
    let (whole, vs, has) = c.requires.session in
    let first = c.in_ok-call.ensures.proposes whole vs has in
    let attempt = changed functions s t whole vs before mid steps new put.kind in
    let there = asked functions s t whole vs before mid steps new put.kind c.in_ok-call.call first in
    let visited = c.in_ok-given.ensures in
    (attempt, asked_on functions s t whole vs before mid steps new put.kind c.in_ok-call.call first u mid (visited.gains (root_call attempt) there.asked) refl refl refl first.is_open.frames, visited.gives (root_call attempt) there.asked)

pub returns-clause-edits : goal.returns-clause-edits
returns-clause-edits g c whole vs has =
    let functions = c.args.functions.now in
    let s = g.St.Store.state c.args.store.now in
    let t = g.St.Store.state c.propose_put.new.store in
    let u = g.St.Store.state c.visit.new.store in
    let v = g.St.Store.state c.settle.new.store in
    let put = c.args.put.now in
    let steps = put.path.now.steps in
    let new = tree put.term.now in
    let before = c.args.self.now in
    let mid = c.propose_put.new.self in
    let first = c.in_ok-call.ensures.proposes whole vs has in
    let attempt = changed functions s t whole vs before mid steps new put.kind in
    let there = asked functions s t whole vs before mid steps new put.kind c.in_ok-call.call first in
    let visited = c.in_ok-given.ensures in
    let gains = visited.gains (root_call attempt) there.asked in
    let later = asked_on functions s t whole vs before mid steps new put.kind c.in_ok-call.call first u mid gains refl refl refl first.is_open.frames in
    edited functions s t whole vs before mid steps new put.kind c.in_ok-call.call first u mid gains v _ c.settle.new.self c.settle.ensures.reads c.settle.ensures.depth
    (c.settle.ensures.settles attempt later (visited.gives (root_call attempt) there.asked))

pub returns-in_err-call-clause-high : goal.returns-in_err-call-clause-high
returns-in_err-call-clause-high g c whole vs has there high =
    let half = c.in_err-call.ensures.high whole vs has there high in
    (same_refusal c.from_residual.result c.in_err-call.field-0.0 edit.TooDeep c.from_residual.ensures.1 half.0, half.1)

pub returns-in_err-given-clause-high : goal.returns-in_err-given-clause-high
returns-in_err-given-clause-high g c whole vs has there high =
    let refused = (c.in_ok-call.ensures.high whole vs has there high).0 in
    absurd (cc)

pub returns-clause-high : goal.returns-clause-high
returns-clause-high g c whole vs has there high =
    let refused = (c.in_ok-call.ensures.high whole vs has there high).0 in
    absurd (cc)
