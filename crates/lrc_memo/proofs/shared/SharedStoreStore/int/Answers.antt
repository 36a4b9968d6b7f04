use Rattle.std.proofs.Common.{ℤ, to_z, of_z, w64, subst}
use Rattle.std.proofs.lemmas.Int.{to_z-of_z}
use Rattle.lrc_store.specs.Cells.{number}
use Rattle.lrc_store.specs.Words.{Puts}
use Rattle.lrc_table.specs.Standings.{IsNoted, standing}
use Rattle.lrc_table.specs.Passes.{identity}
use Rattle.lrc_memo.specs.Shared.{Shared, shared_standing, with_own}
use Rattle.lrc_memo.proofs.Missing.{shared_puts}
use Rattle.lrc_memo.proofs.shared.SharedStoreStore.int.Goals as goal

pub returns-clause-noted : goal.returns-clause-noted
returns-clause-noted g c =
    subst (λ (n : ℤ). IsNoted c.args.self.now.pass.view c.int.new.self.view (number n) c.int.result) (to_z-of_z w64 c.args.value c.ranges.value)
    (subst (λ (s : Shared g.row.N.Denot). IsNoted s.pass.view c.int.new.self.view (number (to_z w64 (of_z w64 c.args.value))) c.int.result) c.self.view_is c.int.ensures.noted)

pub returns-clause-puts : goal.returns-clause-puts
returns-clause-puts g c =
    subst (λ (n : ℤ). Puts (shared_standing c.args.self.now) (with_own (standing c.int.new.self.view) c.self.inside.missed (identity c.self.inside.table.now)) (number n) c.int.result) (to_z-of_z w64 c.args.value c.ranges.value)
    (shared_puts _ c.args.self.now c.int.new.self.view c.self.view_is (λ (s : Shared g.row.N.Denot). number (to_z w64 (of_z w64 c.args.value))) c.int.result c.int.ensures.puts)
