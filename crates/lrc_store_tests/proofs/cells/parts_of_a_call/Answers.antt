use Rattle.lrc_store.specs.Standing.{meant}
use Rattle.lrc_store.proofs.Known.{stands-meant}
use Rattle.lrc_store_tests.proofs.cells.parts_of_a_call.Goals as goal

pub call_parts-requires-clause-call : goal.call_parts-requires-clause-call
call_parts-requires-clause-call g c =
    let s = g.S.Store.state c.int.new.self in (
      meant s c.in_ok-tree.tree.0,
      3,
      meant s c.nil_in-nil.result.0,
      meant s c.nil_in-nil.result.0,
      stands-meant (g.S.Store.state c.put_call.new.store) c.in_ok-call.call.0 _ c.in_ok-call.ensures.builds.ok.stands,
    )
