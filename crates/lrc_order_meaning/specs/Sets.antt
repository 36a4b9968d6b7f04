-- The sets of a sort's attributes, from the last visit back, and the visits that they make.
--
-- Source: Kastens, Ordered Attributed Grammars (1980).
use Rattle.std.specs.Prelude.{◌≡◌, ℕ, zero, suc, ◌+◌, ◌*◌, ◌/◌, ◌<◌, ◌≤◌, Bool, true, not, List, length, Some, slice_get, All, Contains, ◌⊎◌}
use Rattle.lrc_base.specs.declared.grammar.Attr.{Attr}
use Rattle.lrc_base.specs.declared.grammar.Given.{Given}
use Rattle.lrc_meaning.specs.Grammar.{Grammar, attrs_of_sort}
use Rattle.lrc_graph.specs.Pairs.{IsLeast}
use Rattle.lrc_order_meaning.specs.Induced.{Induced}

-- whether set k, counted from 1, is one of inherited attributes: those of odd number are of synthesised ones
abbrev pub is_of_inherited : ℕ → Bool
is_of_inherited zero = true
is_of_inherited (suc k) = not (is_of_inherited k)

-- the attribute is one of the sort, and of the direction of set k
pub record HasTurn (g : Grammar) (s k a : ℕ) : Type 0 where
  pub attr : Attr
  pub is_there : slice_get (attrs_of_sort g.sorts s) a ≡ Some attr
  pub direction : attr.inherited ≡ is_of_inherited k

-- These attributes can stand in set k behind the earlier ones: each is of its direction, and what must come after
-- it is earlier or among them.
pub record CanStand (g : Grammar) (given : List Given) (s k : ℕ) (Earlier : ℕ → Type 0) (set : List ℕ) : Type 0 where
  pub turn : All (HasTurn g s k) set
  pub closed : (a b : ℕ) → Contains set a → Induced g given s a b → Earlier b ⊎ Contains set b

-- a member of the greatest set that can stand there
pub record InGreatest (g : Grammar) (given : List Given) (s k : ℕ) (Earlier : ℕ → Type 0) (a : ℕ) : Type 0 where
  pub set : List ℕ
  pub can_stand : CanStand g given s k Earlier set
  pub member : Contains set a

-- the attribute is in one of the first k sets
abbrev pub Placed : Grammar → List Given → ℕ → ℕ → ℕ → Type 0
Placed g given s zero a = ⊥
Placed g given s (suc k) a = Placed g given s k a ⊎ InGreatest g given s (suc k) (Placed g given s k) a

-- the attribute is in set k
abbrev pub InSet : Grammar → List Given → ℕ → ℕ → ℕ → Type 0
InSet g given s k a = IsLeast (λ n. Placed g given s n a) (Some k)

-- n visits, at least one, take and give all attributes
pub record AreEnough (g : Grammar) (given : List Given) (s n : ℕ) : Type 0 where
  pub some : 1 ≤ n
  pub all : (a : ℕ) → a < length (attrs_of_sort g.sorts s) → Placed g given s (2 * n) a

-- the number of visits of a sort
abbrev pub IsVisits : Grammar → List Given → ℕ → ℕ → Type 0
IsVisits g given s visits = IsLeast (AreEnough g given s) (Some visits)

-- The visit, counted from 1, that takes an inherited attribute or gives a synthesised one: the last visit has the
-- first two sets, the one before it the next two, and so on.
pub record IsVisitOf (g : Grammar) (given : List Given) (s visits a visit : ℕ) : Type 0 where
  pub set : ℕ
  pub in_set : InSet g given s set a
  pub from_last : visit + (set + 1) / 2 ≡ visits + 1

-- Whether one attribute comes before another: it does by an induced dependency, or as a member of a set before a
-- member of the set of the next lower number.
abbrev pub Before : Grammar → List Given → ℕ → ℕ → ℕ → Type 0
Before g given s a b =
    Induced g given s a b ⊎ ((k : ℕ) × InSet g given s (suc k) a × InSet g given s k b)
