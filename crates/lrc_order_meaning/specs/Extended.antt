-- The extended dependencies of productions.
use Rattle.std.specs.Prelude.{◌≡◌, ℕ, ◌+◌, List, Contains, ◌⊎◌}
use Rattle.lrc_base.specs.declared.grammar.Production.{Production}
use Rattle.lrc_base.specs.declared.grammar.Given.{Given}
use Rattle.lrc_meaning.specs.Grammar.{Grammar}
use Rattle.lrc_graph.specs.Pairs.{Path}
use Rattle.lrc_order_meaning.specs.declared.Place.{Place}
use Rattle.lrc_order_meaning.specs.Needs.{need, needs_of, places_of}
use Rattle.lrc_order_meaning.specs.Sets.{Before}

-- a place's sort has the first attribute before the second
pub record ByPlace (g : Grammar) (given : List Given) (p : Production) (x y : ℕ) : Type 0 where
  pub place : Place
  pub is_place : Contains (places_of g.sorts p) place
  pub first : ℕ
  pub then : ℕ
  pub before : Before g given place.sort first then
  pub x_is : x ≡ place.start + first
  pub y_is : y ≡ place.start + then

-- the needs of a production, and at each place the order of its sort
abbrev pub Extended : Grammar → List Given → Production → ℕ → ℕ → Type 0
Extended g given p x y = Contains (needs_of g.sorts p) (need x y) ⊎ ByPlace g given p x y

-- a path of them
abbrev pub ExtendedPath : Grammar → List Given → Production → ℕ → ℕ → Type 0
ExtendedPath g given p = Path (Extended g given p)
