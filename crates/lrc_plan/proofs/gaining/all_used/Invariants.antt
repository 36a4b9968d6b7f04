use Rattle.std.proofs.Common.{take}
use Rattle.lrc_plan.specs.Gaining.{used_by, AreSetsOf}
use Rattle.lrc_plan.proofs.gaining.all_used.Given as goal

abbrev pub invariant-visits : goal.invariant-visits
invariant-visits l = AreSetsOf (used_by l.site.sorts.now l.site.parts.now l.site.production.now.left) (take l.earlier l.segments) l.sets.items
