use Rattle.std.proofs.Common.{refl, sym, subst}
use Rattle.lrc_meaning.specs.Tree.{tree}
use Rattle.lrc_visit_meaning.specs.Values.{root_call}
use Rattle.lrc_bodies.specs.Bodies.{HasRoom}
use Rattle.lrc_machine.specs.Machine.{HasLevels}
use Rattle.lrc_machine.specs.Levels.{slots_of}
use Rattle.lrc_session.specs.Proposals.{IsRootGiven}
use Rattle.lrc_session.proofs.SessionLemmas.{visited_frames, proposed_later}
use Rattle.lrc_visit_tests.proofs.halves.opened.Goals as goal

pub returns-clause-session : goal.returns-clause-session
returns-clause-session g c =
    let functions = c.args.functions.now in
    let m = g.St.Store.state c.propose.new.store in
    let u = g.St.Store.state c.visit.new.store in
    let t = tree c.args.term.now in
    let proposed = c.in_ok-proposal.ensures.proposal in
    let depth = c.in_ok-proposal.ensures.depth in
    let asked = proposed.call.asked in
    let visited = c.in_ok-given.ensures in
    let opens =
    c.begin.ensures.opens t
    (proposed_later functions m u t c.in_ok-proposal.proposal _ (visited.gains (root_call t) asked).lasts.known refl (visited_frames functions c.in_ok-proposal.proposal.frames c.visit.new.frames c.in_ok-proposal.proposal.depth
    (subst (λ n. HasLevels (λ frame. HasRoom functions.counts frame.items) (slots_of c.visit.new.frames.levels) n) (sym depth) visited.levels) visited.stack proposed.frames) proposed)
    (subst (λ n. IsRootGiven functions u n t c.in_ok-given.given.0) (sym depth) (visited.gives (root_call t) asked))
    in
    (t, opens.values, opens.is_open)
