use Rattle.std.proofs.Common.{◌≡◌, replicate, false}
use Rattle.lrc_plan.proofs.visit_table.VisitTable.new.Given as goal

abbrev pub invariant-visits : goal.invariant-visits
invariant-visits l = l.rows.items ≡ replicate l._row (replicate l.count false)
