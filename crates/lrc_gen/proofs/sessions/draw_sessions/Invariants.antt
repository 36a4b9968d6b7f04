use Rattle.std.proofs.Common.{◌≡◌}
use Rattle.lrc_gen.specs.Drawing.{row}
use Rattle.lrc_gen.specs.Generated.{session}
use Rattle.lrc_gen.proofs.sessions.draw_sessions.Given as goal

-- the sessions so far, and the state behind them
abbrev pub invariant-loop-session : goal.invariant-loop-session
invariant-loop-session l = record {
  scripts : l.scripts ≡ (row l._session (session l.nodes l.tree) l.fn.draws.state).0;
  state : l.draws.state ≡ (row l._session (session l.nodes l.tree) l.fn.draws.state).1;
}
