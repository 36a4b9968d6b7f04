use Rattle.std.proofs.Common.{◌≡◌, ◌∷◌}
use Rattle.lrc_gen.specs.Drawing.{draw, row}
use Rattle.lrc_gen.proofs.sessions.draw_path.Given as goal

-- the steps so far, and the state behind them
abbrev pub invariant-loop-step : goal.invariant-loop-step
invariant-loop-step l = record {
  steps : l.steps ≡ 0 ∷ (row l._step (draw 2) l.fn.draws.state).0;
  state : l.draws.state ≡ (row l._step (draw 2) l.fn.draws.state).1;
}
