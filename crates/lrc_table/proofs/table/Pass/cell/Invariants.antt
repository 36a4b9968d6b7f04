use Rattle.lrc_store.specs.Cells.{pair}
use Rattle.lrc_store.specs.Standing.{meant}
use Rattle.lrc_table.specs.Standings.{standing}
use Rattle.lrc_table.proofs.table.Pass.cell.Given as goal

abbrev pub ghosts-put : goal.ghosts-put
ghosts-put g a = record { cell = pair a.content.tag (meant (standing a.self.now.view) a.content.left) (meant (standing a.self.now.view) a.content.right) }
