-- What is needed before what in a production, read off its equations, and the places of sorts in it.
use Rattle.std.specs.Prelude.{ℕ, ◌+◌, List, [], ◌∷◌, ◌++◌, map, flat_map, length, Option, Some, None, cond}
use Rattle.std.specs.Option.{option_map_or}
use Rattle.std.specs.List.{range_with_len}
use Rattle.lrc_base.specs.declared.grammar.Kind.{Kind}
use Rattle.lrc_base.specs.declared.grammar.Kind.TheVariants as k
use Rattle.lrc_base.specs.declared.grammar.Sort.{Sort}
use Rattle.lrc_base.specs.declared.grammar.Kid.{Kid}
use Rattle.lrc_base.specs.declared.grammar.Extra.{Extra}
use Rattle.lrc_base.specs.declared.grammar.Equation.{Equation}
use Rattle.lrc_base.specs.declared.grammar.Production.{Production}
use Rattle.lrc_meaning.specs.Expression.{Expression, literal, occurrence, leaf, binary, choice, make, Expressions, no_more, and_more, expression}
use Rattle.lrc_meaning.specs.Grammar.{attrs_of_sort, attrs_of, symbol_occurrence, extra_occurrences}
use Rattle.lrc_order_meaning.specs.declared.Need.{Need}
use Rattle.lrc_order_meaning.specs.declared.Place.{Place}

-- the occurrences that an expression reads, in any branch, from left to right
abbrev mutual
  pub reads : Expression → List ℕ
  reads (literal t) = []
  reads (occurrence i) = i ∷ []
  reads (leaf i) = []
  reads (binary op a b) = reads a ++ reads b
  reads (choice c a b) = reads c ++ (reads a ++ reads b)
  reads (make p args) = reads_of_each args

  pub reads_of_each : Expressions → List ℕ
  reads_of_each no_more = []
  reads_of_each (and_more e es) = reads e ++ reads_of_each es

-- the left side of a production
abbrev pub left_place : Production → Place
left_place p = record { sort = p.left; start = 0; tree = None }

-- a symbol of this kind whose attributes start there; a leaf is no symbol
abbrev pub symbol_of : Kind → ℕ → Option ℕ → List Place
symbol_of k.Int start tree = []
symbol_of k.Bool start tree = []
symbol_of k.Name start tree = []
symbol_of (k.Sort s) start tree = record { sort = s; start = start; tree = tree } ∷ []

-- the symbols among children whose occurrences start there
abbrev pub kid_symbols : List Sort → ℕ → List Kid → List Place
kid_symbols sorts start [] = []
kid_symbols sorts start (kid ∷ kids) =
    symbol_of kid.kind start None ++ kid_symbols sorts (start + length (attrs_of sorts kid.kind)) kids

-- the nonterminal attributes among locals and nonterminal attributes whose occurrences start there
abbrev pub extra_symbols : List Sort → ℕ → List Extra → List Place
extra_symbols sorts start [] = []
extra_symbols sorts start (x ∷ xs) =
    cond x.attached (symbol_of x.kind (start + 1) (Some start)) [] ++ extra_symbols sorts (start + length (extra_occurrences sorts x)) xs

-- how many occurrences children and how many locals and nonterminal attributes have
abbrev pub kid_count : List Sort → List Kid → ℕ
kid_count sorts kids = length (flat_map (λ (kid : Kid). map symbol_occurrence (attrs_of sorts kid.kind)) kids)

abbrev pub extra_count : List Sort → List Extra → ℕ
extra_count sorts extras = length (flat_map (extra_occurrences sorts) extras)

-- the occurrence behind those of the left side, and the one behind those of the children
abbrev pub own_end : List Sort → Production → ℕ
own_end sorts p = length (attrs_of_sort sorts p.left)

abbrev pub kids_end : List Sort → Production → ℕ
kids_end sorts p = own_end sorts p + kid_count sorts p.kids

-- The symbols of a production, by number: the children whose kind is a sort, then the nonterminal attributes.
abbrev pub symbols_of : List Sort → Production → List Place
symbols_of sorts p =
    kid_symbols sorts (own_end sorts p) p.kids ++ extra_symbols sorts (kids_end sorts p) p.extras

-- The places of sorts in a production: the left side, then the symbols.
abbrev pub places_of : List Sort → Production → List Place
places_of sorts p = left_place p ∷ symbols_of sorts p

-- the occurrences of the attributes at a place
abbrev pub occurrences_at : List Sort → Place → List ℕ
occurrences_at sorts place = range_with_len place.start (length (attrs_of_sort sorts place.sort))

abbrev pub need : ℕ → ℕ → Need
need first then = record { first = first; then = then }

-- what an expression reads is needed before the equation's target
abbrev pub equation_needs : Equation → List Need
equation_needs e = map (λ o. need o e.target) (reads (expression e.expr))

-- a nonterminal attribute's value is needed before each attribute of the tree that is attached there
abbrev pub tree_needs : List Sort → Place → List Need
tree_needs sorts place = option_map_or (λ tree. map (need tree) (occurrences_at sorts place)) place.tree []

-- The direct dependencies of a production.
abbrev pub needs_of : List Sort → Production → List Need
needs_of sorts p = flat_map equation_needs p.equations ++ flat_map (tree_needs sorts) (places_of sorts p)
