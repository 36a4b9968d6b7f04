use Rattle.lrc_store.proofs.Lasting.{reads-then}
use Rattle.lrc_code.proofs.terms.kid_of.Goals as goal

pub returns-clause-reads : goal.returns-clause-reads
returns-clause-reads g c = reads-then _ (g.St.Store.state c.sides_of.new.store) _ c.sides_of.ensures.reads c.item_of.ensures.reads
