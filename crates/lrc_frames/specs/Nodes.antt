-- What is read of the cell of a node.
use Rattle.std.specs.Prelude.{◌≡◌, ℕ, List, Option, Some, None, option_map, slice_get}
use Rattle.lrc_base.specs.declared.grammar.Kind.{Kind}
use Rattle.lrc_base.specs.declared.grammar.Kind.TheVariants as k
use Rattle.lrc_base.specs.declared.grammar.Production.{Production}
use Rattle.lrc_meaning.specs.Tree.{Tree, Trees, node}
use Rattle.lrc_store.specs.Standing.{Standing, Stands}
use Rattle.lrc_code.specs.Forms.{list_cell, kid_cells}
use Rattle.lrc_frames.specs.declared.nodes.Node.{Node}

-- the tree is a node of a production that is there, and the handle stands for the list of its children
pub record IsNode (s : Standing) (prods : List Production) (t : Tree) (found : Node) : Type 0 where
  pub trees : Trees
  pub is : t ≡ node found.production trees
  pub declared : Production
  pub there : slice_get prods found.production ≡ Some declared
  pub children : Stands s found.kids.0 (list_cell (kid_cells trees))

-- or it is none
abbrev pub HasNode : Standing → List Production → Tree → Option Node → Type 0
HasNode s prods t None = (p : ℕ) (kids : Trees) → t ≡ node p kids → slice_get prods p ≡ None
HasNode s prods t (Some found) = IsNode s prods t found

-- the kind of the trees of a production
abbrev pub left_of : List Production → ℕ → Option Kind
left_of prods p = option_map (λ (q : Production). k.Sort q.left) (slice_get prods p)
