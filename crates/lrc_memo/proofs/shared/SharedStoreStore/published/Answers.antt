use Rattle.std.proofs.Common.{subst}
use Rattle.lrc_store.specs.Standing.{IsSound}
use Rattle.lrc_table.specs.Standings.{standing}
use Rattle.lrc_memo.specs.Shared.{Shared, shared_standing}
use Rattle.lrc_memo.proofs.Missing.{sound_with}
use Rattle.lrc_memo.proofs.shared.SharedStoreStore.published.Goals as goal

pub returns-clause-sound : goal.returns-clause-sound
returns-clause-sound g c =
    subst (λ (s : Shared g.row.N.Denot). IsSound (shared_standing s)) c.self.view_is (sound_with (standing c.self.inside.pass.view) c.self.inside.missed _ c.published.ensures.sound)
