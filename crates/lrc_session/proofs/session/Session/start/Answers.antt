use Rattle.std.proofs.Common.{◌<◌, refl, sym, subst, rules}
use Rattle.lrc_meaning.specs.Tree.{tree, tree_height}
use Rattle.lrc_visit_meaning.specs.Values.{root_call}
use Rattle.lrc_store.proofs.Lasting.{gains-then, stays-gains}
use Rattle.lrc_bodies.specs.Bodies.{HasRoom}
use Rattle.lrc_machine.specs.Machine.{HasLevels}
use Rattle.lrc_machine.specs.Levels.{slots_of}
use Rattle.lrc_session.specs.Sessions.{grammar, demands, Opens}
use Rattle.lrc_session.specs.Proposals.{IsRootGiven}
use Rattle.lrc_session.proofs.DeepLemmas.{too_high}
use Rattle.lrc_session.proofs.FaultLemmas.{was_deep}
use Rattle.lrc_session.proofs.RootLemmas.{root_lacks}
use Rattle.lrc_session.proofs.SessionLemmas.{visited_frames, proposed_later}
use Rattle.lrc_session.proofs.session.Session.start.Goals as goal

pub returns-in_err-proposal-clause-too_deep : goal.returns-in_err-proposal-clause-too_deep
returns-in_err-proposal-clause-too_deep g c e =
    let high : c.args.depth < tree_height (tree c.args.term.now) = search rules in
    too_high (grammar c.args.functions.now) c.args.depth (tree c.args.term.now) high

pub returns-in_err-given-clause-gains : goal.returns-in_err-given-clause-gains
returns-in_err-given-clause-gains g c =
    let t = tree c.args.term.now in
    gains-then (g.St.Store.state c.args.store.now) (g.St.Store.state c.propose.new.store) (g.St.Store.state c.visit.new.store) (demands c.args.functions.now c.args.depth t)
    c.in_ok-proposal.ensures.adds.gains (c.in_err-given.ensures.gains (root_call t) c.in_ok-proposal.ensures.proposal.call.asked)

pub returns-in_err-given-clause-too_deep : goal.returns-in_err-given-clause-too_deep
returns-in_err-given-clause-too_deep g c e =
    let functions = c.args.functions.now in
    let t = tree c.args.term.now in
    root_lacks (grammar functions) functions.plan.parts c.args.depth t functions.plan.ordered
    (c.in_err-given.ensures.too_deep (root_call t) c.in_ok-proposal.ensures.proposal.call.asked (was_deep c.from_residual-in_err-given.result c.in_err-given.field-0.0 c.from_residual-in_err-given.ensures.1 e))

pub returns-clause-gains : goal.returns-clause-gains
returns-clause-gains g c =
    let s = g.St.Store.state c.args.store.now in
    let m = g.St.Store.state c.propose.new.store in
    let u = g.St.Store.state c.visit.new.store in
    let v = g.St.Store.state c.begin.new.store in
    let t = tree c.args.term.now in
    let all = demands c.args.functions.now c.args.depth t in
    gains-then s u v all (gains-then s m u all c.in_ok-proposal.ensures.adds.gains (c.in_ok-given.ensures.gains (root_call t) c.in_ok-proposal.ensures.proposal.call.asked))
    (stays-gains u v all c.begin.ensures.reads.stays)

pub returns-clause-opens : goal.returns-clause-opens
returns-clause-opens g c =
    let functions = c.args.functions.now in
    let m = g.St.Store.state c.propose.new.store in
    let u = g.St.Store.state c.visit.new.store in
    let v = g.St.Store.state c.begin.new.store in
    let t = tree c.args.term.now in
    let proposed = c.in_ok-proposal.ensures.proposal in
    let depth = c.in_ok-proposal.ensures.depth in
    let asked = proposed.call.asked in
    let visited = c.in_ok-given.ensures in
    subst (λ n. Opens functions v n t c.begin.result) depth
    (c.begin.ensures.opens t
    (proposed_later functions m u t c.in_ok-proposal.proposal _ (visited.gains (root_call t) asked).lasts.known refl (visited_frames functions c.in_ok-proposal.proposal.frames c.visit.new.frames c.in_ok-proposal.proposal.depth
    (subst (λ n. HasLevels (λ frame. HasRoom functions.counts frame.items) (slots_of c.visit.new.frames.levels) n) (sym depth) visited.levels) visited.stack proposed.frames) proposed)
    (subst (λ n. IsRootGiven functions u n t c.in_ok-given.given.0) (sym depth) (visited.gives (root_call t) asked)))
