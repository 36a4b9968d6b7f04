use Rattle.lrc_table.proofs.Probing.{Tried}
use Rattle.lrc_table.proofs.table.Pass.put.Given as goal

abbrev pub invariant-loop-steps : goal.invariant-loop-steps
invariant-loop-steps g l = Tried l.fn.self l.self g.C.Sought.cell l.fn.content l.steps
