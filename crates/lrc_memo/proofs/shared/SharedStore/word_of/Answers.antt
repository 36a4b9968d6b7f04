use Rattle.lrc_memo.proofs.Missing.{shared_reads}
use Rattle.lrc_memo.proofs.shared.SharedStore.word_of.Goals as goal

pub returns-clause-reads : goal.returns-clause-reads
returns-clause-reads g c = shared_reads _ c.args.self.now c.load_memo.new.self.view c.self.view_is c.load_memo.ensures.reads
