use Rattle.lrc_memo.specs.Shared.{shared_standing}
use Rattle.bench_table.specs.Numbers.{AreNumbers}
use Rattle.bench_table.proofs.work.handles_of.Given as goal

abbrev pub invariant-loop-number : goal.invariant-loop-number
invariant-loop-number l = AreNumbers (shared_standing l.store) l.handles.items
