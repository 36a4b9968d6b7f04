use Rattle.lrc_memo.specs.Shared.{shared_standing}
use Rattle.bench_table.specs.Numbers.{AreNumbers}
use Rattle.bench_table.proofs.work.recall_rounds.Given as goal

abbrev pub invariant-loop : goal.invariant-loop
invariant-loop l = AreNumbers (shared_standing l.store) l.handles
