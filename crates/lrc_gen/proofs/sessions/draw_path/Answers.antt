use Rattle.std.proofs.Common.{ℕ, List, [], ◌∷◌, ◌++◌, sym, ap, ◌∙◌}
use Rattle.lrc_gen.specs.Drawing.{draw}
use Rattle.lrc_gen.proofs.DrawLemmas.{row_none, next_items, next_state}
use Rattle.lrc_gen.proofs.sessions.draw_path.Goals as goal

pub loop-step-init : goal.loop-step-init
loop-step-init c =
    let none = row_none (draw 2) c.args.draws.now.state in
    record {
      steps = c.in_ok-push.ensures.ok ∙ ap (λ xs. xs ++ 0 ∷ []) c.new-steps.ensures ∙ ap (λ (p : List ℕ × ℕ). 0 ∷ p.0) (sym none);
      state = ap (λ (p : List ℕ × ℕ). p.1) (sym none);
    }

pub loop-step-preserved : goal.loop-step-preserved
loop-step-preserved c =
    let loop = c.loop-step in
    record {
      steps = next_items (draw 2) loop._step c.args.draws.now.state (0 ∷ []) loop.steps c.push-in-loop-step.new.self loop.draws.state c.draw.result c.draw.new.self.state
          loop.invariant.steps loop.invariant.state c.draw.ensures.value c.in_ok-push-2.ensures.ok;
      state = next_state (draw 2) loop._step c.args.draws.now.state (0 ∷ []) loop.steps c.push-in-loop-step.new.self loop.draws.state c.draw.result c.draw.new.self.state
          loop.invariant.state c.draw.ensures.state;
    }
