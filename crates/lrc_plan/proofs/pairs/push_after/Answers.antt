use Rattle.std.proofs.Common.{◌+◌, sym, ◌∙◌, ℕ, Bool}
use Rattle.lrc_order_meaning.specs.declared.Need.{Need}
use Rattle.lrc_order_meaning.specs.Needs.{need}
use Rattle.lrc_plan_meaning.specs.Items.{comes_before}
use Rattle.lrc_plan.proofs.VisitLemmas.{passed_on, passed_by}
use Rattle.lrc_plan.proofs.pairs.push_after.Goals as goal
use Rattle.lrc_plan.proofs.pairs.push_after.Goals.{then-comes_before+in_ok-push, else-comes_before}

pub attributes-preserved : goal.attributes-preserved
attributes-preserved c =
    let place = c.args.place in
    let f : ℕ → Need = λ (y : ℕ). need (place.start + c.args.first) (place.start + y) in
    let test : ℕ → Bool = comes_before c.args.parts.now place.sort c.args.first in
    elim c.if-comes_before.branch [
      | then-comes_before+in_ok-push w ↦
          passed_on f test c.attributes.then c.attributes.pairs c.if-comes_before.pairs c.args.pairs.now c.attributes.invariant
          (sym c.comes_before.ensures ∙ w.if-comes_before.true) (w.pairs-is ∙ w.in_ok-push.ensures.ok)
      | else-comes_before w ↦
          passed_by f test c.attributes.then c.attributes.pairs c.if-comes_before.pairs c.args.pairs.now c.attributes.invariant
          (sym c.comes_before.ensures ∙ w.if-comes_before.false) w.pairs-is
    ]
