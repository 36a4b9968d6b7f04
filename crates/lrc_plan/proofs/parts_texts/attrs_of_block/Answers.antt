use Rattle.std.proofs.Common.{◌&&◌, ◌==◌, ◌++◌, ◌∷◌, [], true, false, sym, ap, ◌∙◌, ℕ, Bool, append-nil}
use Rattle.lrc_plan_meaning.specs.Items.{is_of, visit_of}
use Rattle.lrc_plan.proofs.VisitLemmas.{filtered_more}
use Rattle.lrc_plan.proofs.parts_texts.attrs_of_block.Goals as goal
use Rattle.lrc_plan.proofs.parts_texts.attrs_of_block.Goals.{then-has+in_ok-push, else-has}

pub attributes-preserved : goal.attributes-preserved
attributes-preserved c =
    let test : ℕ → Bool = λ (x : ℕ). is_of c.attrs_of_sort-attrs.result.now c.args.block.inherited x && (visit_of c.args.parts.now c.args.block.sort x == c.args.block.visit) in
    let n = c.attributes.attr in
    elim c.if-has.branch [
      | then-has+in_ok-push w ↦
          w.found-is ∙ w.in_ok-push.ensures.ok ∙ ap (λ xs. xs ++ n ∷ []) c.attributes.invariant
          ∙ sym (filtered_more test n true (sym c.has.ensures ∙ w.if-has.true))
      | else-has w ↦
          w.found-is ∙ c.attributes.invariant
          ∙ sym (filtered_more test n false (sym c.has.ensures ∙ w.if-has.false) ∙ append-nil _)
    ]
