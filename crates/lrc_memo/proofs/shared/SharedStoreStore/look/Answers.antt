use Rattle.lrc_memo.proofs.Missing.{shared_reads}
use Rattle.lrc_memo.proofs.shared.SharedStoreStore.look.Goals as goal

pub returns-clause-reads : goal.returns-clause-reads
returns-clause-reads g c = shared_reads _ c.args.self.now c.look.new.self.view c.self.view_is c.look.ensures.reads
