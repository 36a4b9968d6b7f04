-- The cells that stand for values, lists, calls of visits and their results.
use Rattle.std.specs.Prelude.{ℕ, zero, suc, ◌+◌, ◌<◌, ◌≤◌, ℤ, pos, Bool, true, false, ◌&&◌, nat_lt, nat_le, List, [], ◌∷◌, ◌++◌, length, take, drop, replicate, Contains}
use Rattle.std.specs.Int.{div_ceil, from_le_bytes, cast_signed, w64}
use Rattle.lrc_base.specs.declared.item.TermItem.{TermItem}
use Rattle.lrc_base.specs.declared.item.TermItem.TheVariants as i
use Rattle.lrc_store.specs.Cells.{CellTree, nil, number, pair}
use Rattle.lrc_meaning.specs.Tree.{Tree, Trees, int, bool, name, node, none, more, in_order}
use Rattle.lrc_code.specs.Stack.{last_of}

-- an item before a list
abbrev pub more_cell : CellTree → CellTree → CellTree
more_cell item rest = pair 4 item rest

-- a list: nil where it is empty
abbrev pub list_cell : List CellTree → CellTree
list_cell [] = nil
list_cell (item ∷ items) = more_cell item (list_cell items)

-- a truth value
abbrev pub truth_cell : Bool → CellTree
truth_cell false = pair 1 nil nil
truth_cell true = pair 2 nil nil

-- the number whose eight bytes, least first, are the first eight of these, padded with zeros
unfoldable pub word : List ℕ → ℤ
word bytes = cast_signed w64 (from_le_bytes w64 (take 8 (bytes ++ replicate 8 0)))

-- so many words of the bytes, one behind the other
abbrev pub words_cell : ℕ → List ℕ → CellTree
words_cell zero bytes = nil
words_cell (suc n) bytes = pair 3 (number (word bytes)) (words_cell n (drop 8 bytes))

-- a name: as many words as its bytes fill
unfoldable pub name_cell : List ℕ → CellTree
name_cell bytes = words_cell (div_ceil (length bytes) 8) bytes

-- a node of a production, with the list of its children
abbrev pub node_cell : ℕ → CellTree → CellTree
node_cell production kids = pair (256 + production) kids nil

-- a tree, which is what a value is
abbrev mutual
  pub tree_cell : Tree → CellTree
  tree_cell (int i) = number i
  tree_cell (bool b) = truth_cell b
  tree_cell (name bytes) = name_cell bytes
  tree_cell (node production kids) = node_cell production (list_cell (kid_cells kids))

  pub kid_cells : Trees → List CellTree
  kid_cells none = []
  kid_cells (more t ts) = tree_cell t ∷ kid_cells ts

-- an item of a flat term, over the cells of the trees before it
abbrev pub item_cell : TermItem → List CellTree → CellTree
item_cell (i.Int z) cells = number z
item_cell (i.Bool b) cells = truth_cell b
item_cell (i.Name bytes) cells = name_cell bytes
item_cell (i.Node production n) cells = node_cell production (list_cell (last_of n cells))

-- the call of a visit of a tree, with the list of inherited values, and the list of bindings of earlier visits
abbrev pub call_cell : CellTree → ℕ → CellTree → CellTree → CellTree
call_cell tree visit inherited bindings = pair (32 + visit) tree (pair 5 inherited bindings)

-- the result of a visit: its height, the list of synthesised values, and the list of bindings for later visits
abbrev pub result_cell : ℕ → CellTree → CellTree → CellTree
result_cell height synthesised bindings = pair 6 (number (pos height)) (pair 5 synthesised bindings)

-- each production's number in the tree is below this one
abbrev mutual
  pub are_productions_below : ℕ → Tree → Bool
  are_productions_below limit (int i) = true
  are_productions_below limit (bool b) = true
  are_productions_below limit (name bytes) = true
  are_productions_below limit (node production kids) = nat_lt production limit && are_kids_below limit kids

  pub are_kids_below : ℕ → Trees → Bool
  are_kids_below limit none = true
  are_kids_below limit (more t ts) = are_productions_below limit t && are_kids_below limit ts

-- each node in the tree has at most so many children
abbrev mutual
  pub are_kids_few : ℕ → Tree → Bool
  are_kids_few most (int i) = true
  are_kids_few most (bool b) = true
  are_kids_few most (name bytes) = true
  are_kids_few most (node production kids) = nat_le (length (in_order kids)) most && are_all_few most kids

  pub are_all_few : ℕ → Trees → Bool
  are_all_few most none = true
  are_all_few most (more t ts) = are_kids_few most t && are_all_few most ts

-- the bytes of a name: from 1 to 255
abbrev pub IsSpelling : List ℕ → Type 0
IsSpelling bytes = (byte : ℕ) → Contains bytes byte → (1 ≤ byte) × (byte < 256)

-- the bytes of each name in the tree are so
abbrev mutual
  pub EachName : (List ℕ → Type 0) → Tree → Type 0
  EachName IsSo (int i) = Unit {0}
  EachName IsSo (bool b) = Unit {0}
  EachName IsSo (name bytes) = IsSo bytes
  EachName IsSo (node production kids) = EachNameBelow IsSo kids

  pub EachNameBelow : (List ℕ → Type 0) → Trees → Type 0
  EachNameBelow IsSo none = Unit {0}
  EachNameBelow IsSo (more t ts) = EachName IsSo t × EachNameBelow IsSo ts

-- the bytes of each name in the tree are from 1 to 255
abbrev pub AreSpelled : Tree → Type 0
AreSpelled t = EachName IsSpelling t
