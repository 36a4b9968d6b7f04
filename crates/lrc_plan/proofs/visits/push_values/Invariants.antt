use Rattle.std.proofs.Common.{◌≡◌, ◌++◌}
use Rattle.lrc_plan.proofs.VisitLemmas.{values_below}
use Rattle.lrc_plan.proofs.visits.push_values.Given as goal

abbrev pub invariant-attributes : goal.invariant-attributes
invariant-attributes l = l.items ≡ l.initial.items ++ values_below l.site.parts.now l.attrs l.block.inherited l.block.sort l.start l.block.visit l.attr
