use Rattle.std.proofs.Common.{sym, subst}
use Rattle.lrc_meaning.specs.Tree.{tree, replaced}
use Rattle.lrc_visit_meaning.specs.Values.{root_call}
use Rattle.lrc_bodies.specs.Bodies.{HasRoom}
use Rattle.lrc_machine.specs.Machine.{HasLevels}
use Rattle.lrc_machine.specs.Levels.{slots_of}
use Rattle.lrc_bodies.specs.declared.frames.Frames.{Frames}
use Rattle.lrc_session.proofs.SessionLemmas.{asked_later}
use Rattle.lrc_visit_tests.proofs.halves.put.Goals as goal

pub visit-requires-clause-levels : goal.visit-requires-clause-levels
visit-requires-clause-levels g c =
    let (whole, vs, has) = c.requires.session in
    let mid = c.propose_put.new.self in
    subst (λ (frames : Frames). HasLevels (λ frame. HasRoom c.args.functions.now.counts frame.items) (slots_of frames.levels) mid.depth) (sym c.frames.ensures.value) (c.in_ok-call.ensures.proposes whole vs has).is_open.frames.levels

pub settle-requires-clause-call : goal.settle-requires-clause-call
settle-requires-clause-call g c =
    let functions = c.args.functions.now in
    let t = g.St.Store.state c.propose_put.new.store in
    let u = g.St.Store.state c.visit.new.store in
    let put = c.args.put.now in
    let (whole, vs, has) = c.requires.session in
    let attempt = replaced whole put.path.now.steps (tree put.term.now) in
    let asked = (c.in_ok-call.ensures.proposes whole vs has).answers.1 in
    let visited = c.in_ok-given.ensures in
    (attempt, asked_later functions t u attempt c.in_ok-call.call.0 (visited.gains (root_call attempt) asked.asked).lasts.known asked, visited.gives (root_call attempt) asked.asked)

pub returns : goal.returns
returns g c =
    let functions = c.args.functions.now in
    let t = g.St.Store.state c.propose_put.new.store in
    let u = g.St.Store.state c.visit.new.store in
    let put = c.args.put.now in
    let (whole, vs, has) = c.requires.session in
    let attempt = replaced whole put.path.now.steps (tree put.term.now) in
    let asked = (c.in_ok-call.ensures.proposes whole vs has).answers.1 in
    let visited = c.in_ok-given.ensures in
    let opens =
    c.settle.ensures.settles attempt (asked_later functions t u attempt c.in_ok-call.call.0 (visited.gains (root_call attempt) asked.asked).lasts.known asked) (visited.gives (root_call attempt) asked.asked)
    in
    (attempt, opens.values, opens.is_open)
