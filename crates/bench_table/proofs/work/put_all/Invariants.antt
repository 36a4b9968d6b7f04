use Rattle.std.proofs.Common.{}
use Rattle.lrc_table.specs.Passes.{IsOf}
use Rattle.bench_table.proofs.work.put_all.Given as goal

abbrev pub invariant-loop-number : goal.invariant-loop-number
invariant-loop-number l =
    (goal.iterator-loop-number).can_next l.number-iterator ×
    (goal.iterator-loop-number).is_finite l.number-iterator × IsOf l.pass l.table
