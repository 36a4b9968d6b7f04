-- What a visit meets, as cells: those of its calls, of their results and of what is made, with all their parts. And so the
-- cells that a tree's evaluation demands.
use Rattle.std.specs.Prelude.{ℕ, ◌≤◌, ◌⊎◌, ◌↔◌, Bool, false, ◌&&◌, nat_lt, List, flat_map, filter, Contains}
use Rattle.lrc_meaning.specs.Tree.{Tree}
use Rattle.lrc_meaning.specs.Grammar.{Grammar}
use Rattle.lrc_meaning.specs.Attribution.{Decorated, IsAttribution, height}
use Rattle.lrc_order_meaning.specs.declared.Partition.{Partition}
use Rattle.lrc_visit_meaning.specs.Values.{root_call}
use Rattle.lrc_visit_meaning.specs.Demand.{Met, called, answered, built, demand, reach}
use Rattle.lrc_store.specs.Cells.{CellTree, nil, number, pair, parts}
use Rattle.lrc_code.specs.Forms.{tree_cell}
use Rattle.lrc_call_meaning.specs.Forms.{call_form, result_form}

-- the cell of what was met
unfoldable pub met_cell : Met → CellTree
met_cell (called c) = call_form c
met_cell (answered r) = result_form r
met_cell (built t) = tree_cell t

-- the cells of all that was met, with their parts
unfoldable pub cells_of : List Met → List CellTree
cells_of ms = flat_map (λ m. parts (met_cell m)) ms

-- whether the cell is a call's, by its tag
abbrev pub is_call_cell : CellTree → Bool
is_call_cell nil = false
is_call_cell (number n) = false
is_call_cell (pair tag left right) = nat_lt 32 tag && nat_lt tag 256

-- the cells of calls among these
abbrev pub calls_in : List CellTree → List CellTree
calls_in cells = filter is_call_cell cells

-- both lists have the same members
abbrev pub HaveSame : List CellTree → List CellTree → Type 0
HaveSame cells others = (cell : CellTree) → Contains cells cell ↔ Contains others cell

module _ (g : Grammar) (partitions : List Partition) (limit : ℕ) (t : Tree) (cells : List CellTree) where
  -- the tree has an attribution within the limit, and these are the cells of its demand
  pub record IsAttributed : Type 0 where
    pub attribution : Decorated
    pub is_attribution : IsAttribution g t attribution
    pub within : height attribution ≤ limit
    pub same : HaveSame cells (cells_of (demand g partitions attribution))

  -- it has none, and these are the cells that its root's visit meets with so much fuel
  pub record IsUnattributed : Type 0 where
    pub none : (d : Decorated) → IsAttribution g t d → ¬ (height d ≤ limit)
    pub same : HaveSame cells (cells_of (reach g partitions limit (root_call t)))

  -- The cells are just those that a tree's evaluation demands within a limit.
  abbrev pub IsDemand : Type 0
  IsDemand = IsAttributed ⊎ IsUnattributed
