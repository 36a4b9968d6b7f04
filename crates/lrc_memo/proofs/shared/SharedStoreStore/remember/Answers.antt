use Rattle.std.proofs.Common.{sym, subst}
use Rattle.lrc_store.specs.Cells.{IsWithin}
use Rattle.lrc_store.specs.Standing.{meant}
use Rattle.lrc_rule.specs.Views.{now}
use Rattle.lrc_table.specs.Standings.{standing, cells_below}
use Rattle.lrc_memo.specs.Shared.{Shared}
use Rattle.lrc_memo.proofs.Missing.{shared_stays}
use Rattle.lrc_memo.proofs.shared.SharedStoreStore.remember.Goals as goal

pub store_memo-requires-clause-reached : goal.store_memo-requires-clause-reached
store_memo-requires-clause-reached g c =
    subst (λ (s : Shared g.row.N.Denot). let v = s.pass.view in IsWithin (g.N.Meaning.reach s.table.meaning (meant (standing v) c.args.call.0) (meant (standing v) c.args.outcome.0)) (cells_below v.layout (now v) v.layout.rows)) (sym c.self.view_is) c.requires.reached

pub returns-clause-stays : goal.returns-clause-stays
returns-clause-stays g c = shared_stays _ c.args.self.now c.store_memo.new.self.view c.self.view_is c.store_memo.ensures.reads.stays
