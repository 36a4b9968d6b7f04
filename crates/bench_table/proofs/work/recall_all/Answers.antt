use Rattle.lrc_memo.specs.Shared.{shared_standing}
use Rattle.bench_table.proofs.Numbered.{stay, known_at}
use Rattle.bench_table.proofs.work.recall_all.Goals as goal

pub recall-requires : goal.recall-requires
recall-requires c = known_at (shared_standing c.loop-handle.store) c.args.handles.now c.loop-handle.handle-index c.loop-handle.invariant c.loop-handle-test.true

pub loop-handle-preserved : goal.loop-handle-preserved
loop-handle-preserved c = stay (shared_standing c.loop-handle.store) (shared_standing c.recall.new.self) c.args.handles.now c.recall.ensures.stays.lasts.known c.loop-handle.invariant
