use Rattle.std.proofs.Common.{ap, subst}
use Rattle.lrc_rule.specs.Views.{View}
use Rattle.lrc_store.specs.Standing.{IsSound}
use Rattle.lrc_table.specs.Passes.{PassView}
use Rattle.lrc_table.specs.Standings.{standing}
use Rattle.lrc_table.proofs.Stores.{sound}
use Rattle.lrc_table.proofs.table.Pass.published.Goals as goal

pub returns-clause-sound : goal.returns-clause-sound
returns-clause-sound g c = let i = c.self.invariant in
    subst (λ (v : View). IsSound (standing v)) (ap (λ (p : PassView). p.view) c.self.view_is) (sound c.self.inside.seat.me.0 i.current i.layout)
