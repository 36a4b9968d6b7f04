use Rattle.std.proofs.Common.{ℕ, List, [], sym, ap, ◌∙◌}
use Rattle.lrc_base.specs.declared.job.RawEdit.{RawEdit}
use Rattle.lrc_gen.specs.Generated.{put}
use Rattle.lrc_gen.proofs.DrawLemmas.{row_none, next_items, next_state}
use Rattle.lrc_gen.proofs.sessions.draw_edits.Goals as goal

pub loop-edit-init : goal.loop-edit-init
loop-edit-init c =
    let none = row_none (put c.args.nodes) c.args.draws.now.state in
    record {
      edits = c.new-edits.ensures ∙ ap (λ (p : List RawEdit × ℕ). p.0) (sym none);
      state = ap (λ (p : List RawEdit × ℕ). p.1) (sym none);
    }

pub loop-edit-preserved : goal.loop-edit-preserved
loop-edit-preserved c =
    let loop = c.loop-edit in
    let drawn = c.in_ok-draw_put in
    record {
      edits = next_items (put c.args.nodes) loop._edit c.args.draws.now.state [] loop.edits c.push.new.self loop.draws.state drawn.field-0 c.draw_put.new.draws.state
          loop.invariant.edits loop.invariant.state drawn.ensures.value c.in_ok-push.ensures.ok;
      state = next_state (put c.args.nodes) loop._edit c.args.draws.now.state [] loop.edits c.push.new.self loop.draws.state drawn.field-0 c.draw_put.new.draws.state
          loop.invariant.state drawn.ensures.state;
    }
