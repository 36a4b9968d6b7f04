use Rattle.lrc_frames.proofs.BeginLemmas.{is_call_cell, call_read}
use Rattle.lrc_session.proofs.proposal.tree_of_call.Goals as goal

pub call_parts-requires-clause-call : goal.call_parts-requires-clause-call
call_parts-requires-clause-call g c = is_call_cell (g.St.Store.state c.args.store.now) c.args.call.0 c.requires.0 c.requires.1

pub returns-clause-tree : goal.returns-clause-tree
returns-clause-tree g c call stands =
    (call_read (g.St.Store.state c.args.store.now) (g.St.Store.state c.call_parts.new.store) c.args.call.0 call c.call_parts.result stands c.call_parts.ensures.parts).tree
