use Rattle.std.proofs.Common.{take}
use Rattle.lrc_plan.specs.Gaining.{gained_by, AreSetsOf}
use Rattle.lrc_plan.proofs.gaining.all_gained.Given as goal

abbrev pub invariant-visits : goal.invariant-visits
invariant-visits l = AreSetsOf (gained_by l.site.sorts.now l.site.parts.now l.site.production.now.left) (take l.earlier l.segments) l.sets.items
