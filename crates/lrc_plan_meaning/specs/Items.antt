-- Items of a production, which become available one after another, and what its actions await, need and make.
--
-- Source: the operations of visit sequences of Kastens, Ordered Attributed Grammars (1980). That a visit of a symbol
-- also makes and takes bindings is after Pennings, Generating Incremental Attribute Evaluators (1994).
use Rattle.std.specs.Prelude.{ℕ, ◌+◌, ◌-◌, Bool, true, false, not, ◌&&◌, ◌==◌, nat_eq, cond, List, [], ◌∷◌, ◌++◌, map, flat_map, filter, length, slice_get, slice_index, slice_index_or}
use Rattle.std.specs.Option.{option_map_or}
use Rattle.std.specs.List.{list_any, range_with_len}
use Rattle.lrc_base.specs.declared.grammar.Attr.{Attr}
use Rattle.lrc_base.specs.declared.grammar.Sort.{Sort}
use Rattle.lrc_base.specs.declared.grammar.Production.{Production}
use Rattle.lrc_meaning.specs.Grammar.{attrs_of_sort}
use Rattle.lrc_graph.specs.Pairs.{paired}
use Rattle.lrc_order_meaning.specs.declared.Need.{Need}
use Rattle.lrc_order_meaning.specs.declared.Place.{Place}
use Rattle.lrc_order_meaning.specs.declared.Partition.{Partition}
use Rattle.lrc_order_meaning.specs.Needs.{need, needs_of, places_of, symbols_of, left_place, equation_needs}
use Rattle.lrc_plan_meaning.specs.declared.Action.{Action}
use Rattle.lrc_plan_meaning.specs.declared.Action.TheVariants as a
use Rattle.lrc_plan_meaning.specs.declared.Bound.{Bound}
use Rattle.lrc_plan_meaning.specs.declared.Bound.TheVariants as b

-- one item, and whether an item is among some
abbrev pub same_item : Bound → Bound → Bool
same_item (b.Value x) (b.Value y) = nat_eq x y
same_item (b.Value x) (b.Kid t k l) = false
same_item (b.Kid s i j) (b.Value y) = false
same_item (b.Kid s i j) (b.Kid t k l) = nat_eq s t && (nat_eq i k && nat_eq j l)

abbrev pub is_among : List Bound → Bound → Bool
is_among items x = list_any (same_item x) items

-- how many visits a sort has
abbrev pub visits_of : List Partition → ℕ → ℕ
visits_of parts s = option_map_or (λ (found : Partition). found.visits) (slice_get parts s) 0

-- the visit of an attribute, by its number in its sort
abbrev pub visit_of : List Partition → ℕ → ℕ → ℕ
visit_of parts s x = option_map_or (λ (found : Partition). slice_index found.visit_of x) (slice_get parts s) 0

-- whether one attribute of a sort comes before another
abbrev pub comes_before : List Partition → ℕ → ℕ → ℕ → Bool
comes_before parts s x y = option_map_or (λ (found : Partition). paired found.before x y) (slice_get parts s) false

-- whether the attribute is of this direction
abbrev pub is_of : List Attr → Bool → ℕ → Bool
is_of attrs inherited x =
    option_map_or (λ (attr : Attr). cond inherited attr.inherited (not attr.inherited)) (slice_get attrs x) false

-- the attributes of a sort that a visit takes, which are inherited, or gives, which are not
abbrev pub attrs_of_visit : List Sort → List Partition → Bool → ℕ → ℕ → List ℕ
attrs_of_visit sorts parts inherited s v =
    filter (λ x. is_of (attrs_of_sort sorts s) inherited x && (visit_of parts s x == v)) (range_with_len 0 (length (attrs_of_sort sorts s)))

-- their values at a place whose attributes start there
abbrev pub values_of_visit : List Sort → List Partition → Bool → ℕ → ℕ → ℕ → List Bound
values_of_visit sorts parts inherited s start v = map (λ x. b.Value (start + x)) (attrs_of_visit sorts parts inherited s v)

-- the value of a nonterminal attribute, whose tree is visited there
abbrev pub tree_of : Place → List Bound
tree_of place = option_map_or (λ tree. b.Value tree ∷ []) place.tree []

-- What visit v of the symbol of number s takes: its tree, its inherited attributes of that visit, and its bindings from
-- its earlier visits.
abbrev pub taken : List Sort → List Partition → Place → ℕ → ℕ → List Bound
taken sorts parts place s v =
    tree_of place ++ (values_of_visit sorts parts true place.sort place.start v ++ map (λ u. b.Kid s u v) (range_with_len 1 (v - 1)))

-- What it gives: its synthesised attributes of that visit, and its bindings to its later visits.
abbrev pub given_back : List Sort → List Partition → Place → ℕ → ℕ → List Bound
given_back sorts parts place s v =
    values_of_visit sorts parts false place.sort place.start v
    ++ map (λ w. b.Kid s v w) (range_with_len (v + 1) (visits_of parts place.sort - v))

-- the pairs of a place's occurrences whose attributes come one before the other
abbrev pub ordered_at : List Sort → List Partition → Place → List Need
ordered_at sorts parts place =
    let attrs = range_with_len 0 (length (attrs_of_sort sorts place.sort)) in
    flat_map (λ x. map (λ y. need (place.start + x) (place.start + y)) (filter (comes_before parts place.sort x) attrs)) attrs

-- The extended dependencies of a production: its needs, and at each place the order of its sort.
abbrev pub extended_of : List Sort → List Partition → Production → List Need
extended_of sorts parts p = needs_of sorts p ++ flat_map (ordered_at sorts parts) (places_of sorts p)

-- the values of the occurrences that are paired with this one
abbrev pub firsts_of : List Need → ℕ → List Bound
firsts_of pairs o = map (λ (n : Need). b.Value n.first) (filter (λ (n : Need). n.then == o) pairs)

-- the symbol of this number
abbrev pub symbol_at : List Sort → Production → ℕ → Place
symbol_at sorts p s = slice_index_or (symbols_of sorts p) s (left_place p)

-- What an action needs: what the equation reads, or what the visit takes.
abbrev pub needs : List Sort → List Partition → Production → Action → List Bound
needs sorts parts p (a.Eval o) = firsts_of (flat_map equation_needs p.equations) o
needs sorts parts p (a.Visit s v) = taken sorts parts (symbol_at sorts p s) s v

-- What it makes: the value, or what the visit gives.
abbrev pub makes : List Sort → List Partition → Production → Action → List Bound
makes sorts parts p (a.Eval o) = b.Value o ∷ []
makes sorts parts p (a.Visit s v) = given_back sorts parts (symbol_at sorts p s) s v

-- What it awaits: each occurrence that comes before it by the extended dependencies, or what the visit takes.
abbrev pub awaits : List Sort → List Partition → Production → Action → List Bound
awaits sorts parts p (a.Eval o) = firsts_of (extended_of sorts parts p) o
awaits sorts parts p (a.Visit s v) = taken sorts parts (symbol_at sorts p s) s v
