-- Laws of the definitions, on which the running test rests.
use Rattle.std.specs.Prelude.{ℕ, ◌+◌, ◌<◌, ◌≤◌, List, All, Contains, ◌⊎◌, ◌↔◌}
use Rattle.lrc_base.specs.declared.grammar.Given.{Given}
use Rattle.lrc_meaning.specs.Grammar.{Grammar}
use Rattle.lrc_graph.specs.Pairs.{Pairs, HasExactly, IsTransitive, Path}
use Rattle.lrc_order_meaning.specs.Induced.{Induced}
use Rattle.lrc_order_meaning.specs.Sets.{HasTurn, InGreatest, InSet, Before}
use Rattle.lrc_order_meaning.specs.Ordered.{IsGivenThere}

-- the induced dependencies of a sort are transitive
abbrev pub AreTransitive : Type 0
AreTransitive = (g : Grammar) (given : List Given) → All (IsGivenThere g.sorts) given → (s : ℕ) → IsTransitive (Induced g given s)

-- an attribute has the turn of set k, and so has each that must come after it and is not earlier
pub record HasItsTurn (g : Grammar) (given : List Given) (s k : ℕ) (Earlier : ℕ → Type 0) (a : ℕ) : Type 0 where
  pub turn : HasTurn g s k a
  pub after : (b : ℕ) → Induced g given s a b → Earlier b ⊎ HasTurn g s k b

-- An attribute is in the greatest set exactly where it has its turn, so that no set has to be tried. The earlier
-- attributes are those of a list, and r is a table of the induced dependencies.
abbrev pub OneLookTells : Type 0
OneLookTells = (g : Grammar) (given : List Given) (s k : ℕ) (earlier : List ℕ) (r : Pairs) → All (IsGivenThere g.sorts) given
    → HasExactly r (Induced g given s) → (a : ℕ)
    → InGreatest g given s k (Contains earlier) a ↔ HasItsTurn g given s k (Contains earlier) a

-- no set below one with a member is empty, but perhaps the first: what follows an empty set could have stood before it
abbrev pub NoneIsEmpty : Type 0
NoneIsEmpty = (g : Grammar) (given : List Given) (s : ℕ) (r : Pairs) → All (IsGivenThere g.sorts) given → HasExactly r (Induced g given s)
    → (k a : ℕ) → 2 ≤ k → InSet g given s (k + 1) a → (b : ℕ) × InSet g given s k b

-- so a member of a set comes before each member of a set of lower number
abbrev pub SetsComeInTurn : Type 0
SetsComeInTurn = (g : Grammar) (given : List Given) (s : ℕ) (r : Pairs) → All (IsGivenThere g.sorts) given → HasExactly r (Induced g given s)
    → (k m a b : ℕ) → m < k → InSet g given s k a → InSet g given s m b → Path (Before g given s) a b
