-- What visits of trees are called with and what they answer, as plain values: no handles, and nothing remembered.
use Rattle.std.specs.Prelude.{ℕ, false, List, [], ◌∷◌}
use Rattle.lrc_meaning.specs.Tree.{Tree, bool}

-- What an item holds: a value, or a binding, which is what its own items hold, in order.
mutual
  pub data Datum : Type 0 where
    value : Tree → Datum
    binding : Data → Datum

  pub data Data : Type 0 where
    no_data : Data
    data_then : Datum → Data → Data

-- data in a row, from a list, and as a list
abbrev pub data_row : List Datum → Data
data_row [] = no_data
data_row (d ∷ ds) = data_then d (data_row ds)

abbrev pub data_list : Data → List Datum
data_list no_data = []
data_list (data_then d ds) = d ∷ data_list ds

-- a leaf, which no visit takes: what is read where no value is
abbrev pub no_tree : Tree
no_tree = bool false

abbrev pub value_in : Datum → Tree
value_in (value t) = t
value_in (binding ds) = no_tree

abbrev pub binding_in : Datum → Data
binding_in (value t) = no_data
binding_in (binding ds) = ds

-- The call of a visit: the tree, the number of the visit, counted from 1, the values of the inherited attributes of that
-- visit, in order of declaration, and the bindings from visits 1, 2, .. before it.
pub record Call : Type 0 where
  pub tree : Tree
  pub visit : ℕ
  pub inherited : List Tree
  pub bindings : List Data

-- Its result: the height, the values of the synthesised attributes of that visit, and the bindings to the visits after it.
pub record Result : Type 0 where
  pub height : ℕ
  pub synthesised : List Tree
  pub bindings : List Data

-- the call of the start sort's one visit of a tree: nothing is inherited, and nothing bound
abbrev pub root_call : Tree → Call
root_call t = record { tree = t; visit = 1; inherited = []; bindings = [] }
