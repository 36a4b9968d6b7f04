use Rattle.lrc_memo.specs.Shared.{shared_standing}
use Rattle.bench_table.proofs.Numbered.{stay, known_at, itself_at}
use Rattle.bench_table.proofs.work.remember_all.Goals as goal

pub remember-requires-clause-call_known : goal.remember-requires-clause-call_known
remember-requires-clause-call_known c = known_at (shared_standing c.loop-handle.store) c.args.handles.now c.loop-handle.handle-index c.loop-handle.invariant c.loop-handle-test.true

pub remember-requires-clause-outcome_known : goal.remember-requires-clause-outcome_known
remember-requires-clause-outcome_known c = known_at (shared_standing c.loop-handle.store) c.args.handles.now c.loop-handle.handle-index c.loop-handle.invariant c.loop-handle-test.true

pub remember-requires-clause-allowed : goal.remember-requires-clause-allowed
remember-requires-clause-allowed c = itself_at (shared_standing c.loop-handle.store) c.args.handles.now c.loop-handle.handle-index c.loop-handle.invariant c.loop-handle-test.true

pub loop-handle-preserved : goal.loop-handle-preserved
loop-handle-preserved c = stay (shared_standing c.loop-handle.store) (shared_standing c.remember.new.self) c.args.handles.now c.remember.ensures.stays.lasts.known c.loop-handle.invariant
