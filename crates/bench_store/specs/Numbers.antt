-- The list of the first numbers, as a cell.
use Rattle.std.specs.Prelude.{ℕ, zero, suc, pos}
use Rattle.lrc_store.specs.Cells.{CellTree, nil, number, pair}

-- the numbers below this many, the last of them first
abbrev pub numbers : ℕ → CellTree
numbers zero = nil
numbers (suc n) = pair 4 (number (pos n)) (numbers n)
