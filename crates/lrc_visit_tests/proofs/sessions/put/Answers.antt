use Rattle.lrc_meaning.specs.Tree.{tree}
use Rattle.lrc_visit_tests.proofs.SessionLemmas.{opened_after}
use Rattle.lrc_visit_tests.proofs.sessions.put.Goals as goal

pub returns-clause-session : goal.returns-clause-session
returns-clause-session g c =
    let (whole, vs, has) = c.requires.session in
    opened_after c.args.functions.now (g.St.Store.state c.args.store.now) (g.St.Store.state c.put.new.store) whole vs c.args.session.now c.put.new.self
    c.in-Put.path.steps (tree c.in-Put.term) c.in-Put.kind c.put.result (c.put.ensures.edits whole vs has)
