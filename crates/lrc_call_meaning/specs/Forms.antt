-- The cells that stand for whole calls of visits and whole results, as the plain visit has them.
use Rattle.std.specs.Prelude.{List, [], ◌∷◌, map}
use Rattle.lrc_meaning.specs.Tree.{Tree}
use Rattle.lrc_visit_meaning.specs.Values.{Datum, value, binding, Data, no_data, data_then, Call, Result}
use Rattle.lrc_store.specs.Cells.{CellTree}
use Rattle.lrc_code.specs.Forms.{list_cell, tree_cell, call_cell, result_cell}

-- a datum: its value, or the list of what its binding holds
abbrev mutual
  pub datum_cell : Datum → CellTree
  datum_cell (value t) = tree_cell t
  datum_cell (binding ds) = list_cell (data_cells ds)

  pub data_cells : Data → List CellTree
  data_cells no_data = []
  data_cells (data_then d ds) = datum_cell d ∷ data_cells ds

-- the list of what a binding holds
abbrev pub binding_cell : Data → CellTree
binding_cell ds = list_cell (data_cells ds)

-- a list of values, and a list of bindings
abbrev pub values_cell : List Tree → CellTree
values_cell ts = list_cell (map tree_cell ts)

abbrev pub bindings_cell : List Data → CellTree
bindings_cell bs = list_cell (map binding_cell bs)

unfoldable pub call_form : Call → CellTree
call_form c = call_cell (tree_cell c.tree) c.visit (values_cell c.inherited) (bindings_cell c.bindings)

unfoldable pub result_form : Result → CellTree
result_form r = result_cell r.height (values_cell r.synthesised) (bindings_cell r.bindings)
