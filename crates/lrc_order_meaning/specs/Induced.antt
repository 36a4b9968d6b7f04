-- The induced dependencies of productions and sorts.
--
-- Source: Kastens, Ordered Attributed Grammars (1980), with pairs that are given from the start. They are the least
-- relations with these rules, whatever loop closes tables for them.
use Rattle.std.specs.Prelude.{◌≡◌, ℕ, ◌+◌, ◌<◌, List, length, Contains}
use Rattle.lrc_base.specs.declared.grammar.Production.{Production}
use Rattle.lrc_base.specs.declared.grammar.Given.{Given}
use Rattle.lrc_meaning.specs.Grammar.{Grammar, attrs_of_sort}
use Rattle.lrc_order_meaning.specs.declared.Place.{Place}
use Rattle.lrc_order_meaning.specs.Needs.{need, needs_of, places_of}

-- the sort stands at a place of this production
pub record StandsIn (g : Grammar) (s : ℕ) (p : Production) : Type 0 where
  pub place : Place
  pub is_place : Contains (places_of g.sorts p) place
  pub of_sort : place.sort ≡ s

mutual
  -- A path of needs, and of pairs that sorts hand to their places, leads in a production from one occurrence to
  -- another: the transitive closure of the production's induced dependencies.
  pub data Leads (g : Grammar) (given : List Given) : Production → ℕ → ℕ → Type 0 where
    by_need : (p : Production) (x y : ℕ) → Contains (needs_of g.sorts p) (need x y) → Leads g given p x y
    by_sort : (p : Production) (place : Place) (a b x y : ℕ) → Contains (places_of g.sorts p) place
        → Induced g given place.sort a b → x ≡ place.start + a → y ≡ place.start + b → Leads g given p x y
    onward : (p : Production) (x y z : ℕ) → Leads g given p x y → Leads g given p y z → Leads g given p x z

  -- The induced dependencies of a sort: the pairs given for one that stands in a production, and each pair of
  -- attributes of one place that a path joins.
  pub data Induced (g : Grammar) (given : List Given) : ℕ → ℕ → ℕ → Type 0 where
    is_given : (p : Production) (s a b : ℕ) → Contains g.prods p → StandsIn g s p
        → Contains given (record { sort = s; first = a; then = b }) → Induced g given s a b
    is_joined : (p : Production) (place : Place) (s a b : ℕ) → Contains g.prods p → Contains (places_of g.sorts p) place
        → place.sort ≡ s → a < length (attrs_of_sort g.sorts s) → b < length (attrs_of_sort g.sorts s)
        → Leads g given p (place.start + a) (place.start + b) → Induced g given s a b
