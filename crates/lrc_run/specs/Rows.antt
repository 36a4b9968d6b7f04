-- When a session may be answered that the store is full: what its attempts demand together, and when the rows of a store of its
-- own have run out.
use Rattle.std.specs.Prelude.{ℕ, ◌<◌, IsTrue, List, ◌++◌, flat_map, Contains}
use Rattle.lrc_meaning.specs.Tree.{Tree}
use Rattle.lrc_meaning.specs.Grammar.{Grammar}
use Rattle.lrc_meaning.specs.Editing.{Attempt}
use Rattle.lrc_order_meaning.specs.declared.Partition.{Partition}
use Rattle.lrc_store.specs.Cells.{CellTree}
use Rattle.lrc_store.specs.Standing.{HasSize}
use Rattle.lrc_session.specs.Sessions.{demanded}

module _ (g : Grammar) (parts : List Partition) (limit : ℕ) where
  -- the cells that these attempts demand
  abbrev pub demands : List Attempt → List CellTree
  demands attempts = flat_map (λ (attempt : Attempt). demanded g parts limit attempt.tree) attempts

  -- with those that an attempt at this tree demands
  abbrev pub wanted : List Attempt → Tree → List CellTree
  wanted earlier t = demands earlier ++ demanded g parts limit t

  -- the tree demands a cell that no earlier attempt demands that was answered with values
  abbrev pub WantsMore : List Attempt → Tree → Type 0
  WantsMore earlier t =
      (cell : CellTree)
      × Contains (demanded g parts limit t) cell
      × ((attempt : Attempt) → Contains earlier attempt → IsTrue attempt.answered → ¬ Contains (demanded g parts limit attempt.tree) cell)

  -- so many rows are fewer than the different cells that are demanded so far
  abbrev pub IsLessThanWanted : ℕ → List Attempt → Tree → Type 0
  IsLessThanWanted rows earlier t = (size : ℕ) × HasSize (wanted earlier t) size × (rows < size)

  -- The rows of a session have run out at an attempt.
  abbrev pub RowsRunOut : ℕ → List Attempt → Tree → Type 0
  RowsRunOut rows earlier t = IsLessThanWanted rows earlier t × WantsMore earlier t
