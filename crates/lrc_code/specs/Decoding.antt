-- The values that cells stand for: the forms read back.
use Rattle.std.specs.Prelude.{ℕ, zero, suc, ◌-◌, true, false, List, [], ◌∷◌, ◌++◌}
use Rattle.std.specs.Int.{to_le_bytes, cast_unsigned, w64}
use Rattle.lrc_meaning.specs.Tree.{Tree, Trees, int, bool, name, node, none, more}
use Rattle.lrc_store.specs.Cells.{CellTree, nil, number, pair}

-- the items of a list
abbrev pub items_in : CellTree → List CellTree
items_in nil = []
items_in (number n) = []
items_in (pair tag left right) = left ∷ items_in right

-- the bytes that are no zeros
abbrev pub nonzero : List ℕ → List ℕ
nonzero [] = []
nonzero (zero ∷ bytes) = nonzero bytes
nonzero (suc b ∷ bytes) = suc b ∷ nonzero bytes

-- the bytes of a word, which is a number
abbrev pub bytes_of_word : CellTree → List ℕ
bytes_of_word nil = []
bytes_of_word (number z) = nonzero (to_le_bytes w64 (cast_unsigned w64 z))
bytes_of_word (pair tag left right) = []

-- the bytes of a name, word by word
abbrev pub bytes_of_name : CellTree → List ℕ
bytes_of_name nil = []
bytes_of_name (number z) = []
bytes_of_name (pair tag left right) = bytes_of_word left ++ bytes_of_name right

-- a truth value, a name or a node, by its tag
abbrev pub by_tag : ℕ → List ℕ → Tree → Tree
by_tag zero bytes t = t
by_tag (suc zero) bytes t = bool false
by_tag (suc (suc zero)) bytes t = bool true
by_tag (suc (suc (suc zero))) bytes t = name bytes
by_tag (suc (suc (suc (suc tag)))) bytes t = t

-- the tree that a cell stands for, and the trees of a list
abbrev mutual
  pub tree_in : CellTree → Tree
  tree_in nil = name []
  tree_in (number n) = int n
  tree_in (pair tag left right) = by_tag tag (bytes_of_word left ++ bytes_of_name right) (node (tag - 256) (trees_in left))

  pub trees_in : CellTree → Trees
  trees_in nil = none
  trees_in (number n) = none
  trees_in (pair tag left right) = more (tree_in left) (trees_in right)
