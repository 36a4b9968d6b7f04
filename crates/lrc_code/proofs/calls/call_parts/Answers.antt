use Rattle.lrc_store.proofs.Lasting.{reads-then}
use Rattle.lrc_code.proofs.calls.call_parts.Goals as goal

pub returns-clause-reads : goal.returns-clause-reads
returns-clause-reads g c = reads-then _ (g.St.Store.state c.sides_of-whole.new.store) _ c.sides_of-whole.ensures.reads c.sides_of-lists.ensures.reads
