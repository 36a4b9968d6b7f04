-- Grammars: the occurrences of a production, and when a grammar is well formed.
use Rattle.std.specs.Prelude.{ℕ, Bool, true, false, not, ◌&&◌, ◌||◌, ◌==◌, nat_eq, nat_lt, List, [], ◌∷◌, ◌++◌, map, flat_map, length, count_by, Option, Some, None, option_map, option_and_then, slice_get, bytes_eq, cond}
use Rattle.std.specs.Option.{option_map_or}
use Rattle.std.specs.List.{list_all, list_any, range_with_len}
use Rattle.lrc_base.specs.declared.grammar.Kind.{Kind}
use Rattle.lrc_base.specs.declared.grammar.Kind.TheVariants as k
use Rattle.lrc_base.specs.declared.grammar.Attr.{Attr}
use Rattle.lrc_base.specs.declared.grammar.Sort.{Sort}
use Rattle.lrc_base.specs.declared.grammar.Kid.{Kid}
use Rattle.lrc_base.specs.declared.grammar.Extra.{Extra}
use Rattle.lrc_base.specs.declared.grammar.Equation.{Equation}
use Rattle.lrc_base.specs.declared.grammar.Piece.{Piece}
use Rattle.lrc_base.specs.declared.grammar.Piece.TheVariants as piece
use Rattle.lrc_base.specs.declared.grammar.Production.{Production}
use Rattle.lrc_base.specs.declared.expr.Op.{Op}
use Rattle.lrc_base.specs.declared.expr.Op.TheVariants as o
use Rattle.lrc_meaning.specs.Tree.{same_kind, is_sort, kind_of}
use Rattle.lrc_meaning.specs.Expression.{Expression, literal, occurrence, leaf, binary, choice, make, Expressions, no_more, and_more, expression}

-- A grammar: sorts, productions, and the number of the start sort. Sorts, productions, children and attributes
-- are numbered from 0 in order of declaration.
pub record Grammar : Type 0 where
  pub sorts : List Sort
  pub prods : List Production
  pub start : ℕ

-- the attributes of a sort by its number; none where there is no such sort
abbrev pub attrs_of_sort : List Sort → ℕ → List Attr
attrs_of_sort sorts s = option_map_or (λ (t : Sort). t.attrs) (slice_get sorts s) []

-- the attributes of a kind: those of its sort
abbrev pub attrs_of : List Sort → Kind → List Attr
attrs_of sorts k.Int = []
attrs_of sorts k.Bool = []
attrs_of sorts k.Name = []
attrs_of sorts (k.Sort s) = attrs_of_sort sorts s

-- What stands at an occurrence: its kind, whether a production's equations define it, and whether they may read it.
pub record Occurrence : Type 0 where
  pub kind : Kind
  pub is_defined : Bool
  pub is_read : Bool

-- an attribute of the left side: its equations read what is inherited and define what is synthesised
abbrev pub own_occurrence : Attr → Occurrence
own_occurrence a = record { kind = a.kind; is_defined = not a.inherited; is_read = a.inherited }

-- an attribute of a symbol: what is inherited is defined, what is synthesised is read
abbrev pub symbol_occurrence : Attr → Occurrence
symbol_occurrence a = record { kind = a.kind; is_defined = a.inherited; is_read = not a.inherited }

-- a local or a nonterminal attribute: its value, and behind a nonterminal attribute's value the attributes of its sort
abbrev pub extra_occurrences : List Sort → Extra → List Occurrence
extra_occurrences sorts x =
    record { kind = x.kind; is_defined = true; is_read = true } ∷ cond x.attached (map symbol_occurrence (attrs_of sorts x.kind)) []

-- The occurrences of a production, by number: the attributes of the left side, those of each symbol among the
-- children, then locals and nonterminal attributes.
abbrev pub occurrences_of : List Sort → Production → List Occurrence
occurrences_of sorts p =
    map own_occurrence (attrs_of_sort sorts p.left)
    ++ (flat_map (λ (kid : Kid). map symbol_occurrence (attrs_of sorts kid.kind)) p.kids ++ flat_map (extra_occurrences sorts) p.extras)

-- the kind of an occurrence that may be read
abbrev pub read_kind : List Occurrence → ℕ → Option Kind
read_kind occurrences i =
    option_and_then (λ (x : Occurrence). cond x.is_read (Some x.kind) None) (slice_get occurrences i)

-- the kind of a child that is a leaf
abbrev pub leaf_kind : List Kid → ℕ → Option Kind
leaf_kind kids i = option_and_then (λ (kid : Kid). cond (is_sort kid.kind) None (Some kid.kind)) (slice_get kids i)

abbrev pub of_kind : Kind → Kind → Option Kind → Option Kind
of_kind needed gives found = option_and_then (λ x. cond (same_kind x needed) (Some gives) None) found

-- the kind that two expressions share
abbrev pub common_kind : Option Kind → Option Kind → Option Kind
common_kind x y = option_and_then (λ a. option_and_then (λ b. cond (same_kind a b) (Some a) None) y) x

-- `+ - *` take numbers and give a number, `<` takes numbers, `==` two of one kind
abbrev pub operated_kind : Op → Option Kind → Option Kind → Option Kind
operated_kind o.Add x y = of_kind k.Int k.Int (common_kind x y)
operated_kind o.Sub x y = of_kind k.Int k.Int (common_kind x y)
operated_kind o.Mul x y = of_kind k.Int k.Int (common_kind x y)
operated_kind o.Equal x y = option_map (λ a. k.Bool) (common_kind x y)
operated_kind o.Less x y = of_kind k.Int k.Bool (common_kind x y)

-- The kind of an expression in normal form; none where it reads what may not be read, or kinds do not agree.
module _ (prods : List Production) (occurrences : List Occurrence) (kids : List Kid) where
  abbrev mutual
    pub expression_kind : Expression → Option Kind
    expression_kind (literal t) = kind_of prods t
    expression_kind (occurrence i) = read_kind occurrences i
    expression_kind (leaf i) = leaf_kind kids i
    expression_kind (binary op a b) = operated_kind op (expression_kind a) (expression_kind b)
    expression_kind (choice c a b) =
        option_and_then (λ x. cond (same_kind x k.Bool) (common_kind (expression_kind a) (expression_kind b)) None) (expression_kind c)
    expression_kind (make p args) =
        option_and_then (λ (q : Production). cond (have_kinds args q.kids) (Some (k.Sort q.left)) None) (slice_get prods p)

    pub have_kinds : Expressions → List Kid → Bool
    have_kinds no_more [] = true
    have_kinds no_more (kid ∷ rest) = false
    have_kinds (and_more e es) [] = false
    have_kinds (and_more e es) (kid ∷ rest) =
        option_map_or (λ x. same_kind x kid.kind) (expression_kind e) false && have_kinds es rest

-- no name stands twice
abbrev pub all_distinct : List (List ℕ) → Bool
all_distinct [] = true
all_distinct (n ∷ ns) = not (list_any (bytes_eq n) ns) && all_distinct ns

-- a kind that is no sort, or a sort that is there
abbrev pub is_known : List Sort → Kind → Bool
is_known sorts k.Int = true
is_known sorts k.Bool = true
is_known sorts k.Name = true
is_known sorts (k.Sort s) = nat_lt s (length sorts)

abbrev pub is_sort_right : List Sort → Sort → Bool
is_sort_right sorts s =
    all_distinct (map (λ (a : Attr). a.name) s.attrs) && list_all (λ (a : Attr). is_known sorts a.kind) s.attrs

-- the names of a production: left attributes, children, locals and nonterminal attributes
abbrev pub names_of : List Sort → Production → List (List ℕ)
names_of sorts p =
    map (λ (a : Attr). a.name) (attrs_of_sort sorts p.left)
    ++ (map (λ (kid : Kid). kid.name) p.kids ++ map (λ (x : Extra). x.name) p.extras)

-- the target is to be defined, and the expression is in normal form and of the target's kind
abbrev pub is_equation_right : List Sort → List Production → Production → Equation → Bool
is_equation_right sorts prods p e =
    let occurrences = occurrences_of sorts p in
    option_map_or
    (λ (target : Occurrence). target.is_defined && option_map_or (same_kind target.kind) (expression_kind prods occurrences p.kids (expression e.expr)) false)
    (slice_get occurrences e.target)
    false

-- each occurrence to be defined has exactly one equation
abbrev pub is_defined_once : Production → List Occurrence → Bool
is_defined_once p occurrences =
    list_all (λ i. option_map_or (λ (x : Occurrence). not x.is_defined || nat_eq (count_by (λ (e : Equation). e.target == i) p.equations) 1) (slice_get occurrences i) true)
    (range_with_len 0 (length occurrences))

abbrev pub is_piece_right : Production → Piece → Bool
is_piece_right p (piece.Text bytes) = true
is_piece_right p (piece.Kid i) = nat_lt i (length p.kids)

abbrev pub is_production_right : List Sort → List Production → Production → Bool
is_production_right sorts prods p =
    nat_lt p.left (length sorts)
    && list_all (λ (kid : Kid). is_known sorts kid.kind) p.kids
    && list_all (λ (x : Extra). is_known sorts x.kind && (not x.attached || is_sort x.kind)) p.extras
    && all_distinct (names_of sorts p)
    && list_all (is_equation_right sorts prods p) p.equations
    && is_defined_once p (occurrences_of sorts p)
    && option_map_or (list_all (is_piece_right p)) p.pattern true

-- the start sort is there and inherits nothing
abbrev pub is_start_right : List Sort → ℕ → Bool
is_start_right sorts start =
    nat_lt start (length sorts) && list_all (λ (a : Attr). not a.inherited) (attrs_of_sort sorts start)

-- Names are distinct, kinds are known and agree, each occurrence to be defined has exactly one equation in normal
-- form, and the start sort inherits nothing. Source: the normal form of attribute grammars (Knuth 1968), with the
-- nonterminal attributes of Vogt, Swierstra and Kuiper (1989).
abbrev pub is_well_formed : Grammar → Bool
is_well_formed g =
    all_distinct (map (λ (s : Sort). s.name) g.sorts)
    && list_all (is_sort_right g.sorts) g.sorts
    && all_distinct (map (λ (p : Production). p.name) g.prods)
    && list_all (is_production_right g.sorts g.prods) g.prods
    && is_start_right g.sorts g.start
