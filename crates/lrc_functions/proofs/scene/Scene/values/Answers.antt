use Rattle.std.proofs.Common.{◌≡◌, ◌+◌, ◌&&◌, ◌==◌, ◌++◌, ◌∷◌, [], List, sym, ap, ◌∙◌, ℕ, Bool}
use Rattle.lrc_plan_meaning.specs.Items.{is_of, visit_of}
use Rattle.lrc_plan.proofs.VisitLemmas.{passed_on, passed_by}
use Rattle.lrc_functions.proofs.scene.Scene.values.Goals as goal
use Rattle.lrc_functions.proofs.scene.Scene.values.Goals.{then-has+in_ok-sum+in_ok-push, else-has}

pub attributes-preserved : goal.attributes-preserved
attributes-preserved c =
    let block = c.args.block in
    let f : ℕ → ℕ = λ (x : ℕ). c.args.start + x in
    let test : ℕ → Bool = λ (x : ℕ). is_of c.attrs_of_sort-attrs.result.now block.inherited x && (visit_of c.args.self.now.parts.now block.sort x == block.visit) in
    elim c.if-has.branch [
      | then-has+in_ok-sum+in_ok-push w ↦
          passed_on f test c.attributes.attr c.attributes.values c.if-has.values [] c.attributes.invariant
          (sym c.has.ensures ∙ w.if-has.true) (w.values-is ∙ w.in_ok-push.ensures.ok ∙ ap (λ n. c.attributes.values ++ n ∷ []) w.in_ok-sum.ensures)
      | else-has w ↦
          passed_by f test c.attributes.attr c.attributes.values c.if-has.values [] c.attributes.invariant
          (sym c.has.ensures ∙ w.if-has.false) w.values-is
    ]
