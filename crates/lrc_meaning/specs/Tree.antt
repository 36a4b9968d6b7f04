-- Abstract syntax trees over the productions of a grammar, what fits where, places, and replacing.
use Rattle.std.specs.Prelude.{ℕ, zero, suc, max, Bool, true, false, not, ◌&&◌, ℤ, List, [], ◌∷◌, Option, Some, None, option_map, slice_get, nat_eq, bytes_eq}
use Rattle.std.specs.Ordering.{int_eq}
use Rattle.std.specs.Option.{option_map_or}
use Rattle.lrc_base.specs.declared.grammar.Kind.{Kind}
use Rattle.lrc_base.specs.declared.grammar.Kind.TheVariants as k
use Rattle.lrc_base.specs.declared.grammar.Kid.{Kid}
use Rattle.lrc_base.specs.declared.grammar.Production.{Production}
use Rattle.lrc_base.specs.declared.term.TermTree.{TermTree}
use Rattle.lrc_base.specs.declared.term.TermTree.TheOpen.{TermTree-F}
use Rattle.lrc_base.specs.declared.term.TermTree.TheFolds.{fold-TermTree}

-- A tree: a leaf, or a production by its number with its children.
mutual
  pub data Tree : Type 0 where
    int : ℤ → Tree
    bool : Bool → Tree
    name : List ℕ → Tree
    node : ℕ → Trees → Tree

  pub data Trees : Type 0 where
    none : Trees
    more : Tree → Trees → Trees

-- trees in a row, from a list of them
abbrev pub row : List Tree → Trees
row [] = none
row (t ∷ ts) = more t (row ts)

-- trees in a row, as a list
abbrev pub in_order : Trees → List Tree
in_order none = []
in_order (more t ts) = t ∷ in_order ts

-- one node, with the trees of its children in their places
abbrev pub tree_step : TermTree-F Tree → Tree
tree_step (TermTree-F.Int i) = int i
tree_step (TermTree-F.Bool b) = bool b
tree_step (TermTree-F.Name n) = name n
tree_step (TermTree-F.Node p kids) = node p (row kids)

-- the tree that a term is
unfoldable pub tree : TermTree → Tree
tree = fold-TermTree Tree tree_step

abbrev pub same_kind : Kind → Kind → Bool
same_kind k.Int k.Int = true
same_kind k.Int k.Bool = false
same_kind k.Int k.Name = false
same_kind k.Int (k.Sort s) = false
same_kind k.Bool k.Int = false
same_kind k.Bool k.Bool = true
same_kind k.Bool k.Name = false
same_kind k.Bool (k.Sort s) = false
same_kind k.Name k.Int = false
same_kind k.Name k.Bool = false
same_kind k.Name k.Name = true
same_kind k.Name (k.Sort s) = false
same_kind (k.Sort r) k.Int = false
same_kind (k.Sort r) k.Bool = false
same_kind (k.Sort r) k.Name = false
same_kind (k.Sort r) (k.Sort s) = nat_eq r s

-- a kind that is a sort
abbrev pub is_sort : Kind → Bool
is_sort k.Int = false
is_sort k.Bool = false
is_sort k.Name = false
is_sort (k.Sort s) = true

-- the children of a production by its number; none where there is no such production
abbrev pub kids_of : List Production → ℕ → List Kid
kids_of prods p = option_map_or (λ (q : Production). q.kids) (slice_get prods p) []

-- the kind of a production's trees is this one
abbrev pub is_left : List Production → ℕ → Kind → Bool
is_left prods p kind = option_map_or (λ (q : Production). same_kind (k.Sort q.left) kind) (slice_get prods p) false

-- A tree is of a kind, and each node has children of its production's kinds.
abbrev mutual
  pub fits : List Production → Tree → Kind → Bool
  fits prods (int i) kind = same_kind k.Int kind
  fits prods (bool b) kind = same_kind k.Bool kind
  fits prods (name n) kind = same_kind k.Name kind
  fits prods (node p kids) kind = is_left prods p kind && each_fits prods kids (kids_of prods p)

  pub each_fits : List Production → Trees → List Kid → Bool
  each_fits prods none [] = true
  each_fits prods none (kid ∷ kids) = false
  each_fits prods (more t ts) [] = false
  each_fits prods (more t ts) (kid ∷ kids) = fits prods t kid.kind && each_fits prods ts kids

-- The kind of a tree; none where its production is not there.
abbrev pub kind_of : List Production → Tree → Option Kind
kind_of prods (int i) = Some k.Int
kind_of prods (bool b) = Some k.Bool
kind_of prods (name n) = Some k.Name
kind_of prods (node p kids) = option_map (λ (q : Production). k.Sort q.left) (slice_get prods p)

-- The number of nodes on the longest path; leaves are no nodes.
abbrev mutual
  pub tree_height : Tree → ℕ
  tree_height (int i) = 0
  tree_height (bool b) = 0
  tree_height (name n) = 0
  tree_height (node p kids) = suc (tallest kids)

  pub tallest : Trees → ℕ
  tallest none = 0
  tallest (more t ts) = max (tree_height t) (tallest ts)

abbrev pub if_same : Bool → Bool → Bool
if_same true b = b
if_same false b = not b

-- Two trees are equal.
abbrev mutual
  pub same_tree : Tree → Tree → Bool
  same_tree (int i) (int j) = int_eq i j
  same_tree (int i) (bool b) = false
  same_tree (int i) (name n) = false
  same_tree (int i) (node p kids) = false
  same_tree (bool a) (int j) = false
  same_tree (bool a) (bool b) = if_same a b
  same_tree (bool a) (name n) = false
  same_tree (bool a) (node p kids) = false
  same_tree (name m) (int j) = false
  same_tree (name m) (bool b) = false
  same_tree (name m) (name n) = bytes_eq m n
  same_tree (name m) (node p kids) = false
  same_tree (node q kids) (int j) = false
  same_tree (node q kids) (bool b) = false
  same_tree (node q kids) (name n) = false
  same_tree (node q kids) (node p others) = nat_eq q p && same_trees kids others

  pub same_trees : Trees → Trees → Bool
  same_trees none none = true
  same_trees none (more t ts) = false
  same_trees (more t ts) none = false
  same_trees (more s ss) (more t ts) = same_tree s t && same_trees ss ts

-- The tree at a place: each step names a child, from 0; none where there is no such place.
abbrev mutual
  pub at_place : Tree → List ℕ → Option Tree
  at_place t [] = Some t
  at_place (int i) (s ∷ steps) = None
  at_place (bool b) (s ∷ steps) = None
  at_place (name n) (s ∷ steps) = None
  at_place (node p kids) (s ∷ steps) = among kids s steps

  pub among : Trees → ℕ → List ℕ → Option Tree
  among none s steps = None
  among (more t ts) zero steps = at_place t steps
  among (more t ts) (suc s) steps = among ts s steps

-- The tree with another at a place; itself where there is no such place.
abbrev mutual
  pub replaced : Tree → List ℕ → Tree → Tree
  replaced t [] u = u
  replaced (int i) (s ∷ steps) u = int i
  replaced (bool b) (s ∷ steps) u = bool b
  replaced (name n) (s ∷ steps) u = name n
  replaced (node p kids) (s ∷ steps) u = node p (replaced_among kids s steps u)

  pub replaced_among : Trees → ℕ → List ℕ → Tree → Trees
  replaced_among none s steps u = none
  replaced_among (more t ts) zero steps u = more (replaced t steps u) ts
  replaced_among (more t ts) (suc s) steps u = more t (replaced_among ts s steps u)
