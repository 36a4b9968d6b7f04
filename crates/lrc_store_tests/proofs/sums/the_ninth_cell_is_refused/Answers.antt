use Rattle.std.proofs.Common.{ℕ}
use Rattle.lrc_store.specs.Standing.{Standing, IsKnown}
use Rattle.lrc_store.specs.Words.{Keeps}
use Rattle.lrc_store.proofs.Known.{known-stands, stands-known}
use Rattle.lrc_table.specs.Standings.{standing}
use Rattle.lrc_store_tests.proofs.sums.the_ninth_cell_is_refused.Goals as goal

still_known : (s t : Standing) (handle : ℕ) → Keeps s t → IsKnown s handle → IsKnown t handle
still_known s t handle keeps known = stands-known t handle _ (keeps handle _ (known-stands s handle known))

-- the list is still known once the root was refused
pub look-after-requires-clause-known : goal.look-after-requires-clause-known
look-after-requires-clause-known g c =
    let list = c.in-Ok.list.0 in
    let made = standing c.children.new.pass.view in
    let looked = standing c.look-before.new.self.view in
    let refused = standing c.cell-root.new.self.view in
    let before = still_known made looked list c.look-before.ensures.reads.stays.lasts.known c.in-Ok.ensures.known in
    still_known looked refused list c.cell-root.ensures.puts.adds.gains.lasts.known before
