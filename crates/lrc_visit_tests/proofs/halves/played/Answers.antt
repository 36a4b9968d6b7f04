use Rattle.std.proofs.Common.{rules}
use Rattle.lrc_visit_tests.proofs.SessionLemmas.{opened_later}
use Rattle.lrc_visit_tests.proofs.halves.played.Goals as goal

pub edited-requires-clause-session : goal.edited-requires-clause-session
edited-requires-clause-session g c =
    opened_later c.args.functions.now (g.St.Store.state c.opened.new.store) (g.St.Store.state c.shown.new.store) c.in_ok-session.session c.shown.ensures.reads.stays.lasts (search rules)
