-- Handles of numbers.
use Rattle.std.specs.Prelude.{List, Contains}
use Rattle.lrc_store.specs.Cells.{number}
use Rattle.lrc_store.specs.Standing.{Standing, Stands}
use Rattle.std.proofs.Common.{ℤ}
use Rattle.lrc_store.specs.declared.cells.Handle.{Handle}

-- each handle stands for a number
abbrev pub AreNumbers : Standing → List Handle → Type 0
AreNumbers s handles = (handle : Handle) → Contains handles handle → (n : ℤ) × Stands s handle.0 (number n)
