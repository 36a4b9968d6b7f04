-- Which sets the numbers stand for.
use Rattle.std.specs.Prelude.{◌≡◌, ◌≢◌, ℕ, zero, suc, ◌+◌, ◌<◌, List, length, slice_index, All, ◌⊎◌}
use Rattle.lrc_base.specs.declared.grammar.Attr.{Attr}
use Rattle.lrc_base.specs.declared.grammar.Given.{Given}
use Rattle.lrc_meaning.specs.Grammar.{Grammar, attrs_of_sort}
use Rattle.lrc_graph.specs.Pairs.{Pairs, Has, HasExactly}
use Rattle.lrc_order_meaning.specs.Induced.{Induced}
use Rattle.lrc_order_meaning.specs.Sets.{Placed, InSet, IsVisits}
use Rattle.lrc_order_meaning.specs.Ordered.{IsGivenThere}
use Rattle.lrc_ordered.specs.Missing.{sum_below}

-- After k sets the number of an attribute is that of its set, or 0 where it is in none of them.
pub record AreNumbered (g : Grammar) (given : List Given) (s k : ℕ) (sets : List ℕ) : Type 0 where
  pub in_none : (a : ℕ) → a < length (attrs_of_sort g.sorts s) → slice_index sets a ≡ 0 → ¬ Placed g given s k a
  pub in_set : (a : ℕ) → slice_index sets a ≢ 0 → InSet g given s (slice_index sets a) a
  pub placed : (a : ℕ) → slice_index sets a ≢ 0 → Placed g given s k a

-- a table of the induced dependencies of a sort with these attributes
pub record IsTableOf (g : Grammar) (given : List Given) (s : ℕ) (attrs : List Attr) (table : Pairs) : Type 0 where
  pub there : All (IsGivenThere g.sorts) given
  pub attributes : attrs ≡ attrs_of_sort g.sorts s
  pub exact : HasExactly table (Induced g given s)

-- the sort has so many visits, and the number of each attribute is that of its set
pub record AreSets (g : Grammar) (given : List Given) (s visits : ℕ) (sets : List ℕ) : Type 0 where
  pub visits_are : IsVisits g given s visits
  pub in_set : (a : ℕ) → a < length sets → InSet g given s (slice_index sets a) a

-- some attribute stands in no set
pub record IsLeft (sets : List ℕ) : Type 0 where
  pub attr : ℕ
  pub is_there : attr < length sets
  pub in_none : slice_index sets attr ≡ 0

abbrev pub no_set : ℕ → ℕ
no_set zero = 1
no_set (suc n) = 0

-- how many attributes stand in no set
unfoldable pub left : List ℕ → ℕ
left sets = sum_below (λ a. no_set (slice_index sets a)) (length sets)

-- the pair of attributes is induced, or of members of a set and of the one of the next lower number
pub record ComesBefore (induced : Pairs) (sets : List ℕ) (x y : ℕ) : Type 0 where
  pub x_in : x < length sets
  pub y_in : y < length sets
  pub order : Has induced x y ⊎ (slice_index sets x ≡ slice_index sets y + 1)

-- a pass over a table added exactly the pairs of Extra
pub record Added (old new : Pairs) (Extra : ℕ → ℕ → Type 0) : Type 0 where
  pub points : new.points ≡ old.points
  pub exact : HasExactly new (λ x y. Has old x y ⊎ Extra x y)
