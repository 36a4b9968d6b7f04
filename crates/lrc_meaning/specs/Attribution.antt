-- Decorated trees and attribution, height, and the attributes of a tree within a limit.
--
-- Source: the definition of an attribute grammar (Knuth 1968); for attached trees Vogt, Swierstra and Kuiper,
-- Higher-Order Attribute Grammars (1989). It is a local check on a finished tree, and knows no order of evaluation.
use Rattle.std.specs.Prelude.{◌≡◌, ℕ, zero, suc, ◌≤◌, max, Bool, true, false, not, ◌&&◌, IsTrue, List, [], ◌∷◌, ◌++◌, length, Option, Some, None, slice_get, cond, ⊤}
use Rattle.std.specs.List.{AllByRecursion}
use Rattle.lrc_base.specs.declared.grammar.Kind.TheVariants as k
use Rattle.lrc_base.specs.declared.grammar.Attr.{Attr}
use Rattle.lrc_base.specs.declared.grammar.Kid.{Kid}
use Rattle.lrc_base.specs.declared.grammar.Extra.{Extra}
use Rattle.lrc_base.specs.declared.grammar.Equation.{Equation}
use Rattle.lrc_base.specs.declared.grammar.Production.{Production}
use Rattle.lrc_meaning.specs.Tree.{Tree, node, Trees, none, more, is_sort, is_left, fits}
use Rattle.lrc_meaning.specs.Expression.{expression, value_of}
use Rattle.lrc_meaning.specs.Grammar.{Grammar, attrs_of_sort}

-- A decorated node: its production, the values of its sort's attributes in order, its children, and its locals and
-- attached trees in order. A part is a value (a leaf, a local) or a decorated tree (a symbol).
mutual
  pub data Decorated : Type 0 where
    at_node : ℕ → List Tree → Parts → Parts → Decorated

  pub data Parts : Type 0 where
    end : Parts
    value : Tree → Parts → Parts
    symbol : Decorated → Parts → Parts

-- the tree without values and attached trees
abbrev mutual
  pub bare : Decorated → Tree
  bare (at_node p own kids extras) = node p (bare_kids kids)

  pub bare_kids : Parts → Trees
  bare_kids end = none
  bare_kids (value v rest) = more v (bare_kids rest)
  bare_kids (symbol d rest) = more (bare d) (bare_kids rest)

abbrev pub attributes_of : Decorated → List Tree
attributes_of (at_node p own kids extras) = own

abbrev pub production_of : Decorated → ℕ
production_of (at_node p own kids extras) = p

-- the values at the occurrences of the children
abbrev pub kid_values : Parts → List Tree
kid_values end = []
kid_values (value v rest) = kid_values rest
kid_values (symbol d rest) = attributes_of d ++ kid_values rest

-- the values at the occurrences of locals and nonterminal attributes; an attached tree is its attribute's value
abbrev pub extra_values : Parts → List Tree
extra_values end = []
extra_values (value v rest) = v ∷ extra_values rest
extra_values (symbol d rest) = bare d ∷ (attributes_of d ++ extra_values rest)

-- the values at the occurrences of a node, by number
abbrev pub occurrence_values : List Tree → Parts → Parts → List Tree
occurrence_values own kids extras = own ++ (kid_values kids ++ extra_values extras)

-- the leaf that is the child of this number
abbrev pub leaf_at : Parts → ℕ → Option Tree
leaf_at end i = None
leaf_at (value v rest) zero = Some v
leaf_at (symbol d rest) zero = None
leaf_at (value v rest) (suc i) = leaf_at rest i
leaf_at (symbol d rest) (suc i) = leaf_at rest i

-- each child that is a leaf is a value of its kind, and each other one a decorated tree of its sort
abbrev pub kids_agree : List Production → List Kid → Parts → Bool
kids_agree prods [] end = true
kids_agree prods [] (value v rest) = false
kids_agree prods [] (symbol d rest) = false
kids_agree prods (kid ∷ kids) end = false
kids_agree prods (kid ∷ kids) (value v rest) =
    not (is_sort kid.kind) && fits prods v kid.kind && kids_agree prods kids rest
kids_agree prods (kid ∷ kids) (symbol d rest) = is_left prods (production_of d) kid.kind && kids_agree prods kids rest

-- each local is a value, and each nonterminal attribute a decorated tree of its sort
abbrev pub extras_agree : List Production → List Extra → Parts → Bool
extras_agree prods [] end = true
extras_agree prods [] (value v rest) = false
extras_agree prods [] (symbol d rest) = false
extras_agree prods (x ∷ xs) end = false
extras_agree prods (x ∷ xs) (value v rest) = not x.attached && extras_agree prods xs rest
extras_agree prods (x ∷ xs) (symbol d rest) =
    x.attached && is_left prods (production_of d) x.kind && extras_agree prods xs rest

-- the target of an equation has the value of its expression
pub record Holds (values : List Tree) (leaves : ℕ → Option Tree) (e : Equation) : Type 0 where
  pub given : Tree
  pub of_target : slice_get values e.target ≡ Some given
  pub of_expression : value_of values leaves (expression e.expr) ≡ Some given

-- a node of this production is right: it has a value for each attribute of its sort, its parts agree with the
-- production, and each equation holds
pub record IsNodeRight (g : Grammar) (p : Production) (own : List Tree) (kids extras : Parts) : Type 0 where
  pub owns : length own ≡ length (attrs_of_sort g.sorts p.left)
  pub has_kids : IsTrue (kids_agree g.prods p.kids kids)
  pub has_extras : IsTrue (extras_agree g.prods p.extras extras)
  pub equations : AllByRecursion (Holds (occurrence_values own kids extras) (leaf_at kids)) p.equations

pub record IsNode (g : Grammar) (p : ℕ) (own : List Tree) (kids extras : Parts) : Type 0 where
  pub production : Production
  pub is_there : slice_get g.prods p ≡ Some production
  pub is_right : IsNodeRight g production own kids extras

-- each node is right, those of attached trees included
abbrev mutual
  pub IsRight : Grammar → Decorated → Type 0
  IsRight g (at_node p own kids extras) = IsNode g p own kids extras × AreRight g kids × AreRight g extras

  pub AreRight : Grammar → Parts → Type 0
  AreRight g end = ⊤
  AreRight g (value v rest) = AreRight g rest
  AreRight g (symbol d rest) = IsRight g d × AreRight g rest

-- d is an attribution of the tree t
pub record IsAttribution (g : Grammar) (t : Tree) (d : Decorated) : Type 0 where
  pub is_bare : bare d ≡ t
  pub is_right : IsRight g d

-- the number of nodes on the longest path, attached trees included
abbrev mutual
  pub height : Decorated → ℕ
  height (at_node p own kids extras) = suc (max (highest kids) (highest extras))

  pub highest : Parts → ℕ
  highest end = 0
  highest (value v rest) = highest rest
  highest (symbol d rest) = max (height d) (highest rest)

-- the values of the synthesised attributes, in order of declaration
abbrev pub synthesised : List Attr → List Tree → List Tree
synthesised [] vs = []
synthesised (a ∷ rest) [] = []
synthesised (a ∷ rest) (v ∷ vs) = cond a.inherited (synthesised rest vs) (v ∷ synthesised rest vs)

-- The tree t is of the start sort and has an attribution of height at most limit, and its root's synthesised values are vs.
pub record Attributes (g : Grammar) (limit : ℕ) (t : Tree) (vs : List Tree) : Type 0 where
  pub fitting : IsTrue (fits g.prods t (k.Sort g.start))
  pub attribution : Decorated
  pub is_attribution : IsAttribution g t attribution
  pub within : height attribution ≤ limit
  pub values : vs ≡ synthesised (attrs_of_sort g.sorts g.start) (attributes_of attribution)
