-- Rows of cells as callers see them.
use Rattle.std.specs.Prelude.{ℕ, ◌≡◌, ◌⊎◌, ◌<◌, ◌≤◌, ◌^◌, List, [], ◌∷◌, ◌++◌, length, slice_index_or, suc, refl}
use Rattle.std.specs.Coded.{Coded, code_by, coded_ℕ, coded_list, coded×}
use Rattle.lrc_store.specs.Cells.{CellTree, nil, number, pair, coded_cell}

-- the cells of the rows, in the order in which they were made, and how many rows there may be
pub record Shelf : Type 0 where
  pub cells : List CellTree
  pub quota : ℕ

abbrev pub coded_shelf : Coded Shelf
coded_shelf = code_by (List CellTree × ℕ) (coded× (coded_list coded_cell) coded_ℕ) (λ s. (s.cells, s.quota)) (λ p. record { cells = p.0; quota = p.1 }) (λ _. refl)

-- the cell that a handle stands for: nil, or that of the row before it
abbrev pub at : List CellTree → ℕ → CellTree
at cells handle = slice_index_or (nil ∷ cells) handle nil

-- some handle stands for the cell
abbrev pub IsNamed : List CellTree → CellTree → Type 0
IsNamed cells cell = (handle : ℕ) × (handle ≤ length cells) × (at cells handle ≡ cell)

-- both sides of the cell, which is no nil, have handles
abbrev pub HasSides : List CellTree → CellTree → Type 0
HasSides cells nil = ⊥
HasSides cells (number value) = Unit {0}
HasSides cells (pair tag left right) = IsNamed cells left × IsNamed cells right

-- what is true of rows at all times
pub record IsShelf (s : Shelf) : Type 0 where
  pub limit : s.quota ≤ 2 ^ 24
  pub within : length s.cells ≤ s.quota
  pub distinct : (i j : ℕ) → i ≤ length s.cells → j ≤ length s.cells → at s.cells i ≡ at s.cells j → i ≡ j
  pub sides : (i : ℕ) → i < length s.cells → HasSides s.cells (at s.cells (suc i))

-- the cell is the one that the handle stands for, in a row that was there or in one more
pub record IsPlaced (before after : Shelf) (cell : CellTree) (handle : ℕ) : Type 0 where
  pub within : handle ≤ length after.cells
  pub stands : at after.cells handle ≡ cell
  pub cells : (IsNamed before.cells cell × (after.cells ≡ before.cells))
      ⊎ ((¬ IsNamed before.cells cell) × (length before.cells < before.quota) × (after.cells ≡ before.cells ++ cell ∷ []))

-- the cell is in no row, and all rows are used
pub record IsFullOf (before after : Shelf) (cell : CellTree) : Type 0 where
  pub unnamed : ¬ IsNamed before.cells cell
  pub used : length before.cells ≡ before.quota
  pub cells : after.cells ≡ before.cells
