use Rattle.lrc_memo.proofs.Missing.{shared_reads}
use Rattle.lrc_memo.proofs.shared.SharedStore.evict.Goals as goal

pub returns-clause-reads : goal.returns-clause-reads
returns-clause-reads g c = shared_reads _ c.args.self.now c.clear_memo.new.self.view c.self.view_is c.clear_memo.ensures.reads
