use Rattle.std.proofs.Common.{◌+◌, arith}
use Rattle.lrc_plan_meaning.specs.declared.Bound.TheVariants as b
use Rattle.lrc_plan.proofs.VisitLemmas.{row_more}
use Rattle.lrc_plan.proofs.bindings.push_occurrences.Goals as goal

pub occurrences-preserved : goal.occurrences-preserved
occurrences-preserved c =
    row_more b.Value c.args.items.now c.occurrences.items c.push.new.self 0 c.occurrences.occurrence c.occurrences.occurrence (c.occurrences.occurrence + 1)
    c.occurrences.invariant c.in_ok-push.ensures.ok (omega arith) (omega arith)
