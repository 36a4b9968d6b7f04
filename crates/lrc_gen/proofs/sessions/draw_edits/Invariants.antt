use Rattle.std.proofs.Common.{◌≡◌}
use Rattle.lrc_gen.specs.Drawing.{row}
use Rattle.lrc_gen.specs.Generated.{put}
use Rattle.lrc_gen.proofs.sessions.draw_edits.Given as goal

-- the edits so far, and the state behind them
abbrev pub invariant-loop-edit : goal.invariant-loop-edit
invariant-loop-edit l = record {
  edits : l.edits ≡ (row l._edit (put l.nodes) l.fn.draws.state).0;
  state : l.draws.state ≡ (row l._edit (put l.nodes) l.fn.draws.state).1;
}
