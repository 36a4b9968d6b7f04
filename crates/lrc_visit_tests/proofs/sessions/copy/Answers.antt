use Rattle.lrc_visit_tests.proofs.SessionLemmas.{opened_copy}
use Rattle.lrc_visit_tests.proofs.sessions.copy.Goals as goal

pub returns-clause-session : goal.returns-clause-session
returns-clause-session g c =
    let (whole, vs, has) = c.requires.session in
    opened_copy c.args.functions.now (g.St.Store.state c.args.store.now) (g.St.Store.state c.copy.new.store) whole vs c.args.session.now c.copy.new.self
    c.args.from.now.steps c.args.to.now.steps c.copy.result (c.copy.ensures.copies whole vs has)
