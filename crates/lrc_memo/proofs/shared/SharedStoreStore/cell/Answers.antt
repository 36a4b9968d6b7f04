use Rattle.lrc_store.specs.Cells.{pair}
use Rattle.lrc_store.specs.Standing.{meant}
use Rattle.lrc_memo.specs.Shared.{Shared, shared_standing}
use Rattle.lrc_memo.proofs.Missing.{shared_puts}
use Rattle.lrc_memo.proofs.shared.SharedStoreStore.cell.Goals as goal

pub returns-clause-puts : goal.returns-clause-puts
returns-clause-puts g c =
    shared_puts _ c.args.self.now c.cell.new.self.view c.self.view_is
    (λ (s : Shared g.row.N.Denot). pair c.args.tag (meant (shared_standing s) c.args.left.0) (meant (shared_standing s) c.args.right.0)) c.cell.result c.cell.ensures.puts
