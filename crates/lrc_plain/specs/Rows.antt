-- Rows of cells: which cells they hold.
use Rattle.std.specs.Prelude.{ℕ, ◌≡◌, ◌*◌, ◌<◌, ◌≤◌, ◌^◌, List, [], ◌∷◌, ◌++◌, length, vec_capacity, suc}
use Rattle.lrc_store.specs.Cells.{CellTree, nil, number, pair}
use Rattle.lrc_store.specs.declared.cells.Cell.{Cell}
use Rattle.lrc_store.specs.declared.cells.Cell.TheVariants as cell
use Rattle.lrc_plain.specs.declared.chains.Row.{Row}
use Rattle.lrc_plain.specs.declared.rows.Rows.TheInside.{Inside}
use Rattle.lrc_plain.specs.Shelf.{Shelf, at}
use Rattle.lrc_plain.specs.Chains.{row_at, IsChained, IsHeaded}

-- the cell of this outermost form
abbrev pub whole : List CellTree → Cell → CellTree
whole cells cell.Nil = nil
whole cells (cell.Number value) = number value
whole cells (cell.Pair tag left right) = pair tag (at cells left.0) (at cells right.0)

-- the form is no nil, and its handles are at most this one
abbrev pub IsFor : ℕ → Cell → Type 0
IsFor last cell.Nil = ⊥
IsFor last (cell.Number value) = Unit {0}
IsFor last (cell.Pair tag left right) = (left.0 ≤ last) × (right.0 ≤ last)

-- the cells of these, and of rows over them
abbrev pub cells_from : List CellTree → List Row → List CellTree
cells_from cells [] = cells
cells_from cells (row ∷ rows) = cells_from (cells ++ whole cells row.cell ∷ []) rows

-- the cells are those of the rows, each in one row
pub record IsKept (cells : List CellTree) (rows : List Row) : Type 0 where
  pub same_length : length cells ≡ length rows
  pub sides : (i : ℕ) → i < length rows → IsFor i (row_at rows i).cell
  pub meant : (i : ℕ) → i < length rows → at cells (suc i) ≡ whole cells (row_at rows i).cell
  pub distinct : (i j : ℕ) → i ≤ length cells → j ≤ length cells → at cells i ≡ at cells j → i ≡ j

-- the handles of the form are at most this one
abbrev pub IsOver : ℕ → Cell → Type 0
IsOver last cell.Nil = Unit {0}
IsOver last (cell.Number value) = Unit {0}
IsOver last (cell.Pair tag left right) = (left.0 ≤ last) × (right.0 ≤ last)

-- the rows as callers see them
abbrev pub shelf_of : Inside → Shelf
shelf_of a = record { cells = cells_from [] a.rows.items; quota = a.quota }

-- the rows are within their room, and each is found by its cell
pub record IsIndexed (a : Inside) : Type 0 where
  pub some : 1 ≤ a.quota
  pub limit : a.quota ≤ 2 ^ 24
  pub within : length a.rows.items ≤ a.quota
  pub room : a.quota ≤ vec_capacity a.rows
  pub buckets : length a.heads.items ≡ 2 * a.quota
  pub chained : IsChained a.rows.items (length a.heads.items)
  pub headed : IsHeaded a.rows.items a.heads.items
  pub kept : IsKept (cells_from [] a.rows.items) a.rows.items
