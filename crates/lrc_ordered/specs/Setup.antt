-- The tables that the test begins with.
use Rattle.std.specs.Prelude.{◌≡◌, ℕ, ◌<◌, List, map, length, slice_index_or, Contains, ◌↔◌}
use Rattle.lrc_graph.specs.Pairs.{Pairs, Has, HasExactly, Path, IsTransitive}
use Rattle.lrc_base.specs.declared.grammar.Sort.{Sort}
use Rattle.lrc_base.specs.declared.grammar.Production.{Production}
use Rattle.lrc_base.specs.declared.grammar.Given.{Given}
use Rattle.lrc_meaning.specs.Grammar.{Grammar, attrs_of_sort, occurrences_of}
use Rattle.lrc_order_meaning.specs.declared.Need.{Need}
use Rattle.lrc_order_meaning.specs.declared.Place.{Place}
use Rattle.lrc_order_meaning.specs.declared.Partition.{Partition}
use Rattle.lrc_order_meaning.specs.Needs.{need, needs_of, places_of}
use Rattle.lrc_order_meaning.specs.Induced.{Leads, Induced}
use Rattle.lrc_ordered.specs.Tables.{table_at, HasAt}

-- both occurrences are below a number
abbrev pub IsNeedBelow : ℕ → Need → Type 0
IsNeedBelow points n = (n.first < points) × (n.then < points)

-- the needs of a production, and the paths of them
pub record HasNeeds (sorts : List Sort) (p : Production) (r : Pairs) : Type 0 where
  pub points : r.points ≡ length (occurrences_of sorts p)
  pub closed : IsTransitive (Has r)
  pub pairs : HasExactly r (Path (λ x y. Contains (needs_of sorts p) (need x y)))

-- a point for each attribute, and no pair
pub record IsEmptyTable (s : Sort) (r : Pairs) : Type 0 where
  pub points : r.points ≡ length s.attrs
  pub empty : (x y : ℕ) → ¬ Has r x y

-- a place of this sort is among them
pub record IsAmong (places : List Place) (s : ℕ) : Type 0 where
  pub place : Place
  pub is_place : Contains places place
  pub of_sort : place.sort ≡ s

-- in one of the lists
pub record IsIn (places : List (List Place)) (s : ℕ) : Type 0 where
  pub list : List Place
  pub is_list : Contains places list
  pub among : IsAmong list s

-- The tables of the induced dependencies of a grammar with given pairs.
pub record AreInduced (g : Grammar) (given : List Given) (places : List (List Place)) (needs : List (List Need)) (relations sorts : List Pairs) : Type 0 where
  pub places_are : places ≡ map (places_of g.sorts) g.prods
  pub needs_are : needs ≡ map (needs_of g.sorts) g.prods
  pub productions : length relations ≡ length g.prods
  pub points : (i : ℕ) (p : Production) → i < length g.prods → slice_index_or g.prods i p ≡ p → (table_at relations i).points ≡ length (occurrences_of g.sorts p)
  pub leads : (i x y : ℕ) (p : Production) → i < length g.prods → slice_index_or g.prods i p ≡ p → HasAt relations i x y ↔ Leads g given p x y
  pub tables : length sorts ≡ length g.sorts
  pub sort_points : (s : ℕ) → (table_at sorts s).points ≡ length (attrs_of_sort g.sorts s)
  pub induced : (s a b : ℕ) → HasAt sorts s a b ↔ Induced g given s a b

-- the order of each sort
abbrev pub orders_of : List Partition → List Pairs
orders_of sorts = map (λ (found : Partition). found.before) sorts
