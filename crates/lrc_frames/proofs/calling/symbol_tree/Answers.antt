use Rattle.lrc_store.proofs.Lasting.{reads-then}
use Rattle.lrc_frames.proofs.calling.symbol_tree.Goals as goal

pub returns-then-is_of_kind-clause-reads : goal.returns-then-is_of_kind-clause-reads
returns-then-is_of_kind-clause-reads g c = reads-then _ (g.St.Store.state c.origin_tree.new.store) _ c.in_ok-tree.ensures.reads c.is_of_kind.ensures.reads

pub returns-else-is_of_kind-clause-reads : goal.returns-else-is_of_kind-clause-reads
returns-else-is_of_kind-clause-reads g c = reads-then _ (g.St.Store.state c.origin_tree.new.store) _ c.in_ok-tree.ensures.reads c.is_of_kind.ensures.reads
