-- What is read off a cell of one of the forms.
use Rattle.std.specs.Prelude.{ℕ, ◌≡◌, ◌^◌, ◌-◌, min, ℤ, List, Some, slice_get}
use Rattle.lrc_store.specs.Cells.{CellTree, number, pair}
use Rattle.lrc_store.specs.Standing.{Standing, IsKnown, meant}
use Rattle.lrc_code.specs.Forms.{list_cell, node_cell, call_cell, result_cell}
use Rattle.lrc_code.specs.declared.pairs.Sides.{Sides}
use Rattle.lrc_code.specs.declared.calls.CallParts.{CallParts}
use Rattle.lrc_code.specs.declared.calls.ResultParts.{ResultParts}

-- the cell is a number
abbrev pub IsNumber : CellTree → Type 0
IsNumber cell = (n : ℤ) × (cell ≡ number n)

-- the cell is a pair
abbrev pub IsPair : CellTree → Type 0
IsPair cell = (tag : ℕ) × (left : CellTree) × (right : CellTree) × (cell ≡ pair tag left right)

-- the cell is that of a node of this production
abbrev pub HasProduction : CellTree → ℕ → Type 0
HasProduction cell production = (kids : List CellTree) × (cell ≡ node_cell production (list_cell kids))

-- the cell is that of a list with this item at this number
abbrev pub HasItem : CellTree → ℕ → CellTree → Type 0
HasItem cell i item = (items : List CellTree) × (cell ≡ list_cell items) × (slice_get items i ≡ Some item)

-- the cell is that of a node with this child at this number
abbrev pub HasKid : CellTree → ℕ → CellTree → Type 0
HasKid cell i kid = (production : ℕ) × (kids : List CellTree) × (cell ≡ node_cell production (list_cell kids)) × (slice_get kids i ≡ Some kid)

-- the cell is a call's
abbrev pub IsCall : CellTree → Type 0
IsCall cell = (tree : CellTree) × (visit : ℕ) × (inherited : CellTree) × (bindings : CellTree) × (cell ≡ call_cell tree visit inherited bindings)

-- the cell is a result's, of whatever height
abbrev pub IsResult : CellTree → Type 0
IsResult cell = (height : ℕ) × (synthesised : CellTree) × (bindings : CellTree) × (cell ≡ result_cell height synthesised bindings)

-- these are the tag and the sides of the cell
pub record HasSides (s : Standing) (cell : CellTree) (sides : Sides) : Type 0 where
  pub left : IsKnown s sides.left.0
  pub right : IsKnown s sides.right.0
  pub whole : cell ≡ pair sides.tag (meant s sides.left.0) (meant s sides.right.0)

-- the cell is that of the call of these parts
pub record HasCallParts (s : Standing) (cell : CellTree) (parts : CallParts) : Type 0 where
  pub tree : IsKnown s parts.tree.0
  pub inherited : IsKnown s parts.inherited.0
  pub bindings : IsKnown s parts.bindings.0
  pub whole : cell ≡ call_cell (meant s parts.tree.0) parts.visit (meant s parts.inherited.0) (meant s parts.bindings.0)

-- the cell is that of a result of this height, of which no more than 2 ^ 32 - 1 is read
abbrev pub HasHeight : CellTree → ℕ → CellTree → CellTree → Type 0
HasHeight cell read synthesised bindings = (height : ℕ) × (read ≡ min height (2 ^ 32 - 1)) × (cell ≡ result_cell height synthesised bindings)

-- the cell is that of the result of these parts
pub record HasResultParts (s : Standing) (cell : CellTree) (parts : ResultParts) : Type 0 where
  pub synthesised : IsKnown s parts.synthesised.0
  pub bindings : IsKnown s parts.bindings.0
  pub whole : HasHeight cell parts.height (meant s parts.synthesised.0) (meant s parts.bindings.0)
