use Rattle.lrc_table.proofs.Stores.{meets_mine, meets_known, meets_seen}
use Rattle.lrc_table.proofs.table.Pass.meet.Goals as goal

pub returns-clause-meets : goal.returns-clause-meets
returns-clause-meets g c = meets_known c.args.self.now c.args.other c.take_in.new.self c.take_in.ensures

pub returns-clause-seen : goal.returns-clause-seen
returns-clause-seen g c = meets_seen c.args.self.now c.args.other c.take_in.new.self c.take_in.ensures

pub returns-clause-reads : goal.returns-clause-reads
returns-clause-reads g c = meets_mine c.args.self.now c.args.other c.take_in.new.self c.published-rows.ensures.layout c.take_in.ensures
