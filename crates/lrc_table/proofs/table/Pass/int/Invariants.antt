use Rattle.std.specs.Int.{cast_signed, w64}
use Rattle.lrc_store.specs.Cells.{number}
use Rattle.lrc_table.proofs.table.Pass.int.Given as goal

abbrev pub ghosts-put : goal.ghosts-put
ghosts-put g a = record { cell = number (cast_signed w64 a.content.left) }
