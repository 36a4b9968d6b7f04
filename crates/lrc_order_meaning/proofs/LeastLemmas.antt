-- The induced dependencies are in every pair of relations that keeps their rules.
use Rattle.std.proofs.Common.{◌≡◌, ℕ, ◌+◌, ◌<◌, List, length, Contains}
use Rattle.lrc_base.specs.declared.grammar.Production.{Production}
use Rattle.lrc_base.specs.declared.grammar.Given.{Given}
use Rattle.lrc_meaning.specs.Grammar.{Grammar, attrs_of_sort}
use Rattle.lrc_order_meaning.specs.declared.Place.{Place}
use Rattle.lrc_order_meaning.specs.Needs.{need, needs_of, places_of}
use Rattle.lrc_order_meaning.specs.Induced.{StandsIn, Leads, by_need, by_sort, onward, Induced, is_given, is_joined}

-- a relation on the occurrences of each production and one on the attributes of each sort keep the rules
pub record KeepsRules (g : Grammar) (given : List Given) (InProduction : Production → ℕ → ℕ → Type 0) (InSort : ℕ → ℕ → ℕ → Type 0) : Type 0 where
  pub needs : (p : Production) (x y : ℕ) → Contains (needs_of g.sorts p) (need x y) → InProduction p x y
  pub sorts : (p : Production) (place : Place) (a b : ℕ) → Contains (places_of g.sorts p) place
      → InSort place.sort a b → InProduction p (place.start + a) (place.start + b)
  pub paths : (p : Production) (x y z : ℕ) → InProduction p x y → InProduction p y z → InProduction p x z
  pub given_pairs : (p : Production) (s a b : ℕ) → Contains g.prods p → StandsIn g s p
      → Contains given (record { sort = s; first = a; then = b }) → InSort s a b
  pub joined : (p : Production) (place : Place) (s a b : ℕ) → Contains g.prods p → Contains (places_of g.sorts p) place
      → place.sort ≡ s → a < length (attrs_of_sort g.sorts s) → b < length (attrs_of_sort g.sorts s)
      → InProduction p (place.start + a) (place.start + b) → InSort s a b

module _ (g : Grammar) (given : List Given) (InProduction : Production → ℕ → ℕ → Type 0) (InSort : ℕ → ℕ → ℕ → Type 0)
    (rules : KeepsRules g given InProduction InSort) where
  mutual
    pub leads_least : (p : Production) (x y : ℕ) → Leads g given p x y → InProduction p x y
    leads_least _ _ _ (by_need p x y n) = rules.needs p x y n
    leads_least _ _ _ (by_sort p place a b x y at pair x_is y_is) =
        rw (x_is, y_is) (rules.sorts p place a b at (induced_least place.sort a b pair))
    leads_least _ _ _ (onward p x y z one other) =
        rules.paths p x y z (leads_least p x y one) (leads_least p y z other)

    pub induced_least : (s a b : ℕ) → Induced g given s a b → InSort s a b
    induced_least _ _ _ (is_given p s a b there stands pair) = rules.given_pairs p s a b there stands pair
    induced_least _ _ _ (is_joined p place s a b there at of_sort a_in b_in path) =
        rules.joined p place s a b there at of_sort a_in b_in (leads_least p (place.start + a) (place.start + b) path)
