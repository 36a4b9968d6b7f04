use Rattle.std.proofs.Common.{ℕ, List, [], sym, ap, ◌∙◌}
use Rattle.lrc_base.specs.declared.job.RawScript.{RawScript}
use Rattle.lrc_gen.specs.Generated.{session}
use Rattle.lrc_gen.proofs.DrawLemmas.{row_none, next_items, next_state}
use Rattle.lrc_gen.proofs.sessions.draw_sessions.Goals as goal

pub loop-session-init : goal.loop-session-init
loop-session-init c =
    let none = row_none (session c.args.nodes c.args.tree.now) c.args.draws.now.state in
    record {
      scripts = c.new-scripts.ensures ∙ ap (λ (p : List RawScript × ℕ). p.0) (sym none);
      state = ap (λ (p : List RawScript × ℕ). p.1) (sym none);
    }

pub loop-session-preserved : goal.loop-session-preserved
loop-session-preserved c =
    let loop = c.loop-session in
    let drawn = c.in_ok-draw_session in
    let each = session c.args.nodes c.args.tree.now in
    record {
      scripts = next_items each loop._session c.args.draws.now.state [] loop.scripts c.push.new.self loop.draws.state drawn.field-0 c.draw_session.new.draws.state
          loop.invariant.scripts loop.invariant.state drawn.ensures.value c.in_ok-push.ensures.ok;
      state = next_state each loop._session c.args.draws.now.state [] loop.scripts c.push.new.self loop.draws.state drawn.field-0 c.draw_session.new.draws.state
          loop.invariant.state drawn.ensures.state;
    }
