-- From names to numbers: the grammar and the tree that are written.
use Rattle.std.specs.Prelude.{◌≡◌, ℕ, Bool, true, false, List, [], ◌∷◌, map, flat_map, position, Option, Some, None, option_map, option_and_then, bytes_eq, ◌&&◌, cond}
use Rattle.lrc_base.specs.declared.grammar.Kind.{Kind}
use Rattle.lrc_base.specs.declared.grammar.Kind.TheVariants as k
use Rattle.lrc_base.specs.declared.grammar.Attr.{Attr}
use Rattle.lrc_base.specs.declared.grammar.Sort.{Sort}
use Rattle.lrc_base.specs.declared.grammar.Kid.{Kid}
use Rattle.lrc_base.specs.declared.grammar.Extra.{Extra}
use Rattle.lrc_base.specs.declared.grammar.Equation.{Equation}
use Rattle.lrc_base.specs.declared.grammar.Piece.{Piece}
use Rattle.lrc_base.specs.declared.grammar.Piece.TheVariants as piece
use Rattle.lrc_base.specs.declared.grammar.Production.{Production}
use Rattle.lrc_base.specs.declared.expr.Expr.{Expr}
use Rattle.lrc_base.specs.declared.expr.Expr.TheVariants as e
use Rattle.lrc_base.specs.declared.signature.Occurrence.{Occurrence}
use Rattle.lrc_base.specs.declared.raw.RawKind.{RawKind}
use Rattle.lrc_base.specs.declared.raw.RawKind.TheVariants as rk
use Rattle.lrc_base.specs.declared.raw.RawAttr.{RawAttr}
use Rattle.lrc_base.specs.declared.raw.RawSort.{RawSort}
use Rattle.lrc_base.specs.declared.raw.RawKid.{RawKid}
use Rattle.lrc_base.specs.declared.raw.RawPiece.{RawPiece}
use Rattle.lrc_base.specs.declared.raw.RawPiece.TheVariants as rp
use Rattle.lrc_base.specs.declared.raw.RawItem.{RawItem}
use Rattle.lrc_base.specs.declared.raw.RawItem.TheVariants as item
use Rattle.lrc_base.specs.declared.raw.RawProd.{RawProd}
use Rattle.lrc_base.specs.declared.raw.RawGrammar.{RawGrammar}
use Rattle.lrc_base.specs.declared.raw.RawExpr.{RawExpr}
use Rattle.lrc_base.specs.declared.raw.RawExpr.TheOpen.{RawExpr-F}
use Rattle.lrc_base.specs.declared.raw.RawExpr.TheFolds.{fold-RawExpr}
use Rattle.lrc_base.specs.declared.raw_term.RawTermTree.{RawTermTree}
use Rattle.lrc_base.specs.declared.raw_term.RawTermTree.TheOpen.{RawTermTree-F}
use Rattle.lrc_base.specs.declared.raw_term.RawTermTree.TheFolds.{fold-RawTermTree}
use Rattle.lrc_meaning.specs.Tree.{Tree, int, bool, name, node, row, is_sort}
use Rattle.lrc_meaning.specs.Grammar.{Grammar}
use Rattle.lrc_meaning.specs.Signature.{signed_occurrences, signature_of}

-- each of a list, where there is each
abbrev pub each_some : {A : Type 0} → List (Option A) → Option (List A)
each_some [] = Some []
each_some (x ∷ xs) = option_and_then (λ a. option_map (λ as'. a ∷ as') (each_some xs)) x

-- the number of the first sort of this name
abbrev pub sort_number : List RawSort → List ℕ → Option ℕ
sort_number sorts n = position (λ (s : RawSort). bytes_eq s.name n) sorts

abbrev pub named_kind : List RawSort → RawKind → Option Kind
named_kind sorts rk.Int = Some k.Int
named_kind sorts rk.Bool = Some k.Bool
named_kind sorts rk.Name = Some k.Name
named_kind sorts (rk.Named n) = option_map k.Sort (sort_number sorts n)

abbrev pub named_attr : List RawSort → RawAttr → Option Attr
named_attr sorts a =
    option_map (λ kind. record { name = a.name; inherited = a.inherited; kind = kind }) (named_kind sorts a.kind)

abbrev pub named_sort : List RawSort → RawSort → Option Sort
named_sort sorts s =
    option_map (λ attrs. record { name = s.name; attrs = attrs }) (each_some (map (named_attr sorts) s.attrs))

abbrev pub named_kid : List RawSort → RawKid → Option Kid
named_kid sorts kid =
    option_map (λ kind. record { name = kid.name; kind = kind }) (named_kind sorts kid.kind)

-- the local or nonterminal attribute that an item declares
abbrev pub named_extra : List RawSort → RawItem → List (Option Extra)
named_extra sorts (item.Local n kind x) =
    option_map (λ found. record { name = n; attached = false; kind = found }) (named_kind sorts kind) ∷ []
named_extra sorts (item.Attach n sort x) =
    option_map (λ s. record { name = n; attached = true; kind = k.Sort s }) (sort_number sorts sort) ∷ []
named_extra sorts (item.Own n x) = []
named_extra sorts (item.OfKid c n x) = []
named_extra sorts (item.Pattern pieces) = []

-- the locals and nonterminal attributes of a production, in order of declaration
abbrev pub named_extras : List RawSort → List RawItem → Option (List Extra)
named_extras sorts items = each_some (flat_map (named_extra sorts) items)

abbrev pub same_owner : Option (List ℕ) → Option (List ℕ) → Bool
same_owner None None = true
same_owner None (Some b) = false
same_owner (Some a) None = false
same_owner (Some a) (Some b) = bytes_eq a b

abbrev pub is_called : Option (List ℕ) → List ℕ → Occurrence → Bool
is_called owner n o = same_owner o.owner owner && bytes_eq o.name n

-- the number of the occurrence that is called so
abbrev pub occurrence_number : List Occurrence → Option (List ℕ) → List ℕ → Option ℕ
occurrence_number occurrences owner n = position (is_called owner n) occurrences

-- the number of the child of this name
abbrev pub kid_number : List Kid → List ℕ → Option ℕ
kid_number kids n = position (λ (kid : Kid). bytes_eq kid.name n) kids

-- the number of the leaf of this name
abbrev pub leaf_number : List Kid → List ℕ → Option ℕ
leaf_number kids n = position (λ (kid : Kid). bytes_eq kid.name n && cond (is_sort kid.kind) false true) kids

-- the number of the first production that is written with this name
abbrev pub written_number : List RawProd → List ℕ → Option ℕ
written_number prods n = position (λ (p : RawProd). bytes_eq p.name n) prods

abbrev pub or_leaf : List Kid → List ℕ → Option ℕ → Option Expr
or_leaf kids n (Some i) = Some (e.Occ i)
or_leaf kids n None = option_map e.Leaf (leaf_number kids n)

-- the names that an expression of a production may use: productions, its occurrences, its children
pub record Known : Type 0 where
  pub prods : List RawProd
  pub occurrences : List Occurrence
  pub kids : List Kid

-- one node of an expression, with the expressions of its parts in their places
abbrev pub named_step : Known → RawExpr-F (Option Expr) → Option Expr
named_step known (RawExpr-F.Int i) = Some (e.Int i)
named_step known (RawExpr-F.Bool b) = Some (e.Bool b)
named_step known (RawExpr-F.Name n) = Some (e.Name n)
named_step known (RawExpr-F.One n) = or_leaf known.kids n (occurrence_number known.occurrences None n)
named_step known (RawExpr-F.Two c a) = option_map e.Occ (occurrence_number known.occurrences (Some c) a)
named_step known (RawExpr-F.Op op a b) = option_and_then (λ x. option_map (λ y. e.Op op x y) b) a
named_step known (RawExpr-F.If c a b) =
    option_and_then (λ x. option_and_then (λ y. option_map (λ z. e.If x y z) b) a) c
named_step known (RawExpr-F.Make n args) =
    option_and_then (λ p. option_map (λ xs. e.Make p xs) (each_some args)) (written_number known.prods n)

-- the expression that is written, by numbers
unfoldable pub named_expr : Known → RawExpr → Option Expr
named_expr known = fold-RawExpr (Option Expr) (named_step known)

-- an equation of what is called so
abbrev pub named_target : Known → Option (List ℕ) → List ℕ → RawExpr → Option Equation
named_target known owner n x =
    option_and_then (λ target. option_map (λ y. record { target = target; expr = y }) (named_expr known x)) (occurrence_number known.occurrences owner n)

-- the equation that an item is; a pattern is none
abbrev pub named_equation : Known → RawItem → List (Option Equation)
named_equation known (item.Local n kind x) = named_target known None n x ∷ []
named_equation known (item.Attach n sort x) = named_target known None n x ∷ []
named_equation known (item.Own n x) = named_target known None n x ∷ []
named_equation known (item.OfKid c n x) = named_target known (Some c) n x ∷ []
named_equation known (item.Pattern pieces) = []

abbrev pub named_equations : Known → List RawItem → Option (List Equation)
named_equations known items = each_some (flat_map (named_equation known) items)

abbrev pub named_piece : List Kid → RawPiece → Option Piece
named_piece kids (rp.Text bytes) = Some (piece.Text bytes)
named_piece kids (rp.Kid n) = option_map piece.Kid (kid_number kids n)

-- the pattern that an item is
abbrev pub pattern_of : RawItem → List (List RawPiece)
pattern_of (item.Local n kind x) = []
pattern_of (item.Attach n sort x) = []
pattern_of (item.Own n x) = []
pattern_of (item.OfKid c n x) = []
pattern_of (item.Pattern pieces) = pieces ∷ []

-- the pattern among those that are written, where there is one at most
abbrev pub only_pattern : List Kid → List (List RawPiece) → Option (Option (List Piece))
only_pattern kids [] = Some None
only_pattern kids (pieces ∷ []) = option_map (λ ps. Some ps) (each_some (map (named_piece kids) pieces))
only_pattern kids (pieces ∷ (more ∷ rest)) = None

abbrev pub named_pattern : List Kid → List RawItem → Option (Option (List Piece))
named_pattern kids items = only_pattern kids (flat_map pattern_of items)

-- a production whose left sort, children, locals and nonterminal attributes are known
abbrev pub named_with : List RawProd → List Sort → RawProd → ℕ → List Kid → List Extra → Option Production
named_with raw sorts p left kids extras =
    option_and_then
    (λ equations. option_map (λ pattern. record { name = p.name; left = left; kids = kids; extras = extras; equations = equations; pattern = pattern }) (named_pattern kids p.items))
    (named_equations (record { prods = raw; occurrences = signed_occurrences sorts left kids extras; kids = kids }) p.items)

abbrev pub named_production : RawGrammar → List Sort → RawProd → Option Production
named_production raw sorts p =
    option_and_then
    (λ left. option_and_then (λ kids. option_and_then (named_with raw.prods sorts p left kids) (named_extras raw.sorts p.items)) (each_some (map (named_kid raw.sorts) p.kids)))
    (sort_number raw.sorts p.left)

-- A signature tells what each occurrence of a production is called: the equations that are written have the numbers that
-- its occurrences give.
abbrev pub TellsCalls : Type 0
TellsCalls =
    (raw : RawGrammar) (sorts : List Sort) (p : RawProd) (named : Production) → named_production raw sorts p ≡ Some named
    → named_equations (record { prods = raw.prods; occurrences = (signature_of sorts named).occurrences; kids = named.kids }) p.items ≡ Some named.equations

-- The grammar that is written, by numbers; none where a name is unknown, or where a production has two patterns.
abbrev pub named_grammar : RawGrammar → Option Grammar
named_grammar raw =
    option_and_then
    (λ sorts. option_and_then (λ prods. option_map (λ start. record { sorts = sorts; prods = prods; start = start }) (sort_number raw.sorts raw.start)) (each_some (map (named_production raw sorts) raw.prods)))
    (each_some (map (named_sort raw.sorts) raw.sorts))

-- the number of the first production of this name
abbrev pub production_number : List Production → List ℕ → Option ℕ
production_number prods n = position (λ (p : Production). bytes_eq p.name n) prods

abbrev pub named_tree_step : List Production → RawTermTree-F (Option Tree) → Option Tree
named_tree_step prods (RawTermTree-F.Int i) = Some (int i)
named_tree_step prods (RawTermTree-F.Bool b) = Some (bool b)
named_tree_step prods (RawTermTree-F.Name n) = Some (name n)
named_tree_step prods (RawTermTree-F.Node n kids) =
    option_and_then (λ p. option_map (λ ts. node p (row ts)) (each_some kids)) (production_number prods n)

-- the tree that is written, by numbers; none where a production's name is unknown
unfoldable pub named_tree : List Production → RawTermTree → Option Tree
named_tree prods = fold-RawTermTree (Option Tree) (named_tree_step prods)
