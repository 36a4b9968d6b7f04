use Rattle.lrc_table.proofs.Recalling.{IsOf-memoes, memo_reads}
use Rattle.lrc_table.proofs.table.Pass.clear_memo.Goals as goal

pub returns-clause-of : goal.returns-clause-of
returns-clause-of g c = IsOf-memoes c.args.self.now c.clear_word.new.self c.args.table.now _ c.clear_word.ensures.table c.clear_word.ensures.step c.requires.of

pub returns-clause-reads : goal.returns-clause-reads
returns-clause-reads g c = memo_reads c.args.self.now.view c.clear_word.new.self.view _ c.published-rows.ensures.current c.published-rows.ensures.layout c.clear_word.ensures.step

pub returns-clause-step : goal.returns-clause-step
returns-clause-step g c = c.clear_word.ensures.step.follows.memo_steps
