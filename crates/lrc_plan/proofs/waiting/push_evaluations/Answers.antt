use Rattle.std.proofs.Common.{map, ap, ◌∙◌, ◌++◌, ◌∷◌, [], Vec, Global, arith}
use Rattle.lrc_base.specs.declared.signature.Occurrence.{Occurrence}
use Rattle.lrc_meaning.specs.Signature.{role_of}
use Rattle.lrc_plan.specs.declared.waiting.Waiting.{Waiting}
use Rattle.lrc_plan.specs.Waiting.{waiting_evaluation}
use Rattle.lrc_plan_meaning.specs.Sequences.{is_defined}
use Rattle.lrc_plan.proofs.VisitLemmas.{passed_on, passed_by}
use Rattle.lrc_plan.proofs.WaitingLemmas.{role_defined, evaluation_made}
use Rattle.lrc_plan.proofs.waiting.push_evaluations.Goals as goal
use Rattle.lrc_plan.proofs.waiting.push_evaluations.Goals.{then-occurrences-number+in_ok-evaluation+in_ok-push, else-occurrences-number}

pub occurrences-preserved : goal.occurrences-preserved
occurrences-preserved c =
    let f = waiting_evaluation c.args.needs.now c.args.awaits.now in
    let test = is_defined (map role_of c.args.occurrences.now) in
    let n = c.occurrences.number in
    let there = c.occurrences-test.true in
    let lists = c.requires.lists in
    let defined = role_defined c.args.occurrences.now n c.index-occurrences-number.result there c.index-occurrences-number.is ∙ ap (λ (x : Occurrence). x.is_defined) c.index-occurrences-number.is in
    elim c.if-occurrences-number.branch [
      | then-occurrences-number+in_ok-evaluation+in_ok-push w ↦
          passed_on f test n c.occurrences.waiting.items c.if-occurrences-number.waiting.items c.args.waiting.now.items c.occurrences.invariant
          (defined ∙ w.if-occurrences-number.true)
          (ap (λ (v : Vec Waiting Global). v.items) w.waiting-is ∙ w.in_ok-push.ensures.items
          ∙ ap (λ (x : Waiting). c.occurrences.waiting.items ++ x ∷ [])
          (w.in_ok-evaluation.ensures
          ∙ evaluation_made c.args.needs.now c.args.awaits.now n w.as_slice-needs.result.now w.as_slice-awaits.result.now (omega arith) (omega arith) (rw w.as_slice-needs.ensures w.index-needs-number.is) (rw w.as_slice-awaits.ensures w.index-awaits-number.is)))
      | else-occurrences-number w ↦
          passed_by f test n c.occurrences.waiting.items c.if-occurrences-number.waiting.items c.args.waiting.now.items c.occurrences.invariant
          (defined ∙ w.if-occurrences-number.false) (ap (λ (v : Vec Waiting Global). v.items) w.waiting-is)
    ]
