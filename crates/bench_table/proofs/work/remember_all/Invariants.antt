use Rattle.lrc_memo.specs.Shared.{shared_standing}
use Rattle.bench_table.specs.Numbers.{AreNumbers}
use Rattle.bench_table.proofs.work.remember_all.Given as goal

abbrev pub invariant-loop-handle : goal.invariant-loop-handle
invariant-loop-handle l = AreNumbers (shared_standing l.store) l.handles
