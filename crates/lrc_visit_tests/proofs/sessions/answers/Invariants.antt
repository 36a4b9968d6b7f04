use Rattle.std.proofs.Common.{◌≡◌}
use Rattle.lrc_visit_tests.specs.Opened.{IsOpened}
use Rattle.lrc_visit_tests.proofs.sessions.answers.Given as goal

-- the session is open
abbrev pub invariant-edits : goal.invariant-edits
invariant-edits g l = record {
  session : IsOpened l.functions (g.St.Store.state l.store) l.session;
  same_meaning : g.St.Store.meaning l.store ≡ g.St.Store.meaning l.fn.store;
}
