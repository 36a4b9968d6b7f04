-- Trees by the handles of their cells, the parts at places, and the kinds that are declared for these.
use Rattle.std.specs.Prelude.{ℕ, zero, suc, ◌≡◌, List, [], ◌∷◌, Option, Some, None}
use Rattle.lrc_base.specs.declared.grammar.Kid.{Kid}
use Rattle.lrc_base.specs.declared.grammar.Kind.{Kind}
use Rattle.lrc_base.specs.declared.grammar.Kind.TheVariants as k
use Rattle.lrc_base.specs.declared.grammar.Production.{Production}
use Rattle.lrc_meaning.specs.Tree.{Tree, Trees, int, bool, name, node, none, more, kids_of}
use Rattle.lrc_store.specs.Cells.{CellTree}
use Rattle.lrc_store.specs.Standing.{Standing, Stands}
use Rattle.lrc_store.specs.declared.cells.Handle.{Handle}
use Rattle.lrc_code.specs.Forms.{list_cell, tree_cell, kid_cells}
use Rattle.lrc_places.specs.declared.shapes.Items.{Items}
use Rattle.lrc_places.specs.declared.shapes.Shape.{Shape}
use Rattle.lrc_places.specs.declared.shapes.Shape.TheVariants as shape

-- the list of children
abbrev pub kids_cell : Trees → CellTree
kids_cell ts = list_cell (kid_cells ts)

-- the kind of a leaf; none of a node
abbrev pub kind_of_leaf : Tree → Option Kind
kind_of_leaf (int i) = Some k.Int
kind_of_leaf (bool b) = Some k.Bool
kind_of_leaf (name n) = Some k.Name
kind_of_leaf (node p kids) = None

-- a leaf of the kind, or a node of the production, with the list of its children
abbrev pub IsOfShape : Standing → Tree → Shape → Type 0
IsOfShape s t (shape.Leaf kind) = kind_of_leaf t ≡ Some kind
IsOfShape s t (shape.Node production handle) = (kids : Trees) × (t ≡ node production kids) × Stands s handle.0 (kids_cell kids)

-- the first child and the others; none where there is no child
abbrev pub ShowsFirst : Standing → Trees → Option Items → Type 0
ShowsFirst s ts None = ts ≡ none
ShowsFirst s ts (Some items) = (first : Tree) × (rest : Trees) × (ts ≡ more first rest) × Stands s items.first.0 (tree_cell first) × Stands s items.rest.0 (kids_cell rest)

-- the handle stands for the part that is wanted; and none is wanted where there is none
abbrev pub FindsPart : Standing → Option Tree → Option Handle → Type 0
FindsPart s wanted None = wanted ≡ None
FindsPart s wanted (Some handle) = (part : Tree) × (wanted ≡ Some part) × Stands s handle.0 (tree_cell part)

-- The kind that is declared for a place: for the root the one that is given, and for a child the one of its production; none
-- where there is no such place.
abbrev mutual
  pub declared_at : List Production → Tree → Kind → List ℕ → Option Kind
  declared_at prods t kind [] = Some kind
  declared_at prods (int i) kind (s ∷ steps) = None
  declared_at prods (bool b) kind (s ∷ steps) = None
  declared_at prods (name n) kind (s ∷ steps) = None
  declared_at prods (node p kids) kind (s ∷ steps) = declared_among prods kids (kids_of prods p) s steps

  pub declared_among : List Production → Trees → List Kid → ℕ → List ℕ → Option Kind
  declared_among prods none kids s steps = None
  declared_among prods (more t ts) [] s steps = None
  declared_among prods (more t ts) (kid ∷ kids) zero steps = declared_at prods t kid.kind steps
  declared_among prods (more t ts) (kid ∷ kids) (suc s) steps = declared_among prods ts kids s steps
