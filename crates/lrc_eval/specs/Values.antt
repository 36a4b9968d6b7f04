-- What a value of a running visit means.
use Rattle.std.specs.Prelude.{◌≡◌, Bool, true, false, Option, Some, None, IsTrue}
use Rattle.lrc_meaning.specs.Tree.{Tree, int, bool, name, node}
use Rattle.lrc_store.specs.Standing.{Standing, Stands}
use Rattle.lrc_code.specs.Forms.{tree_cell}
use Rattle.lrc_call_meaning.specs.Spelled.{IsSpelled}
use Rattle.lrc_eval.specs.declared.values.Val.{Val}
use Rattle.lrc_eval.specs.declared.values.Val.TheVariants as v

-- the tree is a name or a node, and no number or truth value
abbrev pub is_name_or_node : Tree → Bool
is_name_or_node (int i) = false
is_name_or_node (bool b) = false
is_name_or_node (name n) = true
is_name_or_node (node p kids) = true

-- the value means the tree; one that is not set means none
abbrev pub Means : Standing → Val → Tree → Type 0
Means s (v.Int n) t = t ≡ int n
Means s (v.Bool b) t = t ≡ bool b
Means s (v.Ref handle) t = IsTrue (is_name_or_node t) × Stands s handle.0 (tree_cell t)
Means s v.Unset t = ⊥

-- it means the tree, whose names are spelled
pub record IsMeant (s : Standing) (value : Val) (t : Tree) : Type 0 where
  pub means : Means s value t
  pub spelled : IsSpelled t

-- a value is found where there is a tree, which it means
abbrev pub Finds : Standing → Option Tree → Option Val → Type 0
Finds s wanted None = wanted ≡ None
Finds s wanted (Some value) = (t : Tree) × (wanted ≡ Some t) × IsMeant s value t
