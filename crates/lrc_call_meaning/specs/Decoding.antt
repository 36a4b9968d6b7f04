-- The calls and results that cells stand for: the forms read back.
use Rattle.std.specs.Prelude.{ℕ, ◌-◌, pos, negsuc, cond, ◌&&◌, nat_eq, nat_lt, List, map, Option, Some, None, option_map}
use Rattle.lrc_meaning.specs.Tree.{Tree, int}
use Rattle.lrc_visit_meaning.specs.Values.{Datum, value, binding, Data, no_data, data_then, Call, Result}
use Rattle.lrc_store.specs.Cells.{CellTree, nil, number, pair}
use Rattle.lrc_code.specs.Decoding.{items_in, tree_in}

-- a list is a binding, and what is no list a value
abbrev mutual
  pub datum_in : CellTree → Datum
  datum_in nil = binding no_data
  datum_in (number n) = value (int n)
  datum_in (pair tag left right) = cond (nat_eq tag 4) (binding (data_then (datum_in left) (data_in right))) (value (tree_in (pair tag left right)))

  pub data_in : CellTree → Data
  data_in nil = no_data
  data_in (number n) = no_data
  data_in (pair tag left right) = data_then (datum_in left) (data_in right)

-- the sides of a pair
abbrev pub left_in : CellTree → CellTree
left_in nil = nil
left_in (number n) = nil
left_in (pair tag left right) = left

abbrev pub right_in : CellTree → CellTree
right_in nil = nil
right_in (number n) = nil
right_in (pair tag left right) = right

-- a list of values, and a list of bindings
abbrev pub values_in : CellTree → List Tree
values_in cell = map tree_in (items_in cell)

abbrev pub bindings_in : CellTree → List Data
bindings_in cell = map data_in (items_in cell)

-- the call of this tag, of the tree of this cell and with these two lists
abbrev pub call_of : ℕ → CellTree → CellTree → Call
call_of tag tree lists = record {
  tree = tree_in tree;
  visit = tag - 32;
  inherited = values_in (left_in lists);
  bindings = bindings_in (right_in lists);
}

-- The call that a cell stands for, by its tag, which leaves room for 223 visits; none where it is not a call's.
unfoldable pub read_call : CellTree → Option Call
read_call nil = None
read_call (number n) = None
read_call (pair tag tree lists) = cond (nat_lt 31 tag && nat_lt tag 256) (Some (call_of tag tree lists)) None

-- a height, which is a number from 0 on
abbrev pub height_in : CellTree → Option ℕ
height_in nil = None
height_in (number (pos height)) = Some height
height_in (number (negsuc n)) = None
height_in (pair tag left right) = None

-- the result of this height with these two lists
abbrev pub result_of : CellTree → ℕ → Result
result_of lists height = record {
  height = height;
  synthesised = values_in (left_in lists);
  bindings = bindings_in (right_in lists);
}

-- The result that a cell stands for; none where it is not a result's.
unfoldable pub read_result : CellTree → Option Result
read_result nil = None
read_result (number n) = None
read_result (pair tag height lists) = cond (nat_eq tag 6) (option_map (result_of lists) (height_in height)) None
