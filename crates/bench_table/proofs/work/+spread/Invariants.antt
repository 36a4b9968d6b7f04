use Rattle.std.proofs.Common.{◌*◌, ◌+◌}
use Rattle.lrc_table.specs.Passes.{IsOf}
use Rattle.bench_table.proofs.work.+spread.Given as goal

abbrev pub decreases-join+arg2 : goal.decreases-join+arg2
decreases-join+arg2 g l = 2 * l.below + 1

abbrev pub decreases-join+arg3 : goal.decreases-join+arg3
decreases-join+arg3 g l = 2 * l.below + 1

abbrev pub decreases-spread : goal.decreases-spread
decreases-spread g l = 2 * l.levels

abbrev pub invariant-loop : goal.invariant-loop
invariant-loop g l = IsOf l.pass l.table
