use Rattle.std.proofs.Common.{◌+◌, ◌&&◌, ◌==◌, sym, ◌∙◌, ℕ, Bool}
use Rattle.lrc_plan_meaning.specs.declared.Bound.{Bound}
use Rattle.lrc_plan_meaning.specs.declared.Bound.TheVariants as b
use Rattle.lrc_plan_meaning.specs.Items.{is_of, visit_of}
use Rattle.lrc_plan.proofs.VisitLemmas.{passed_on, passed_by}
use Rattle.lrc_plan.proofs.visits.push_values.Goals as goal
use Rattle.lrc_plan.proofs.visits.push_values.Goals.{then-has+in_ok-push, else-has}

pub attributes-preserved : goal.attributes-preserved
attributes-preserved c =
    let block = c.args.block in
    let f : ℕ → Bound = λ (x : ℕ). b.Value (c.args.start + x) in
    let test : ℕ → Bool = λ (x : ℕ). is_of c.attrs_of_sort-attrs.result.now block.inherited x && (visit_of c.args.site.now.parts.now block.sort x == block.visit) in
    elim c.if-has.branch [
      | then-has+in_ok-push w ↦
          passed_on f test c.attributes.attr c.attributes.items c.if-has.items c.args.items.now c.attributes.invariant
          (sym c.has.ensures ∙ w.if-has.true) (w.items-is ∙ w.in_ok-push.ensures.ok)
      | else-has w ↦
          passed_by f test c.attributes.attr c.attributes.items c.if-has.items c.args.items.now c.attributes.invariant
          (sym c.has.ensures ∙ w.if-has.false) w.items-is
    ]
