-- Which relation the words of a table stand for.
use Rattle.std.specs.Prelude.{◌≡◌, ℕ, suc, zero, ◌+◌, ◌*◌, ◌/◌, ◌%◌, ◌<◌, ◌≤◌, ◌==◌, Bool, List, [], ◌∷◌, length, slice_index}
use Rattle.std.specs.Int.{bit_at}
use Rattle.lrc_graph.specs.Pairs.{Pairs}

-- the values at the first n numbers
abbrev pub values : {X : Type 0} → (ℕ → X) → ℕ → List X
values f zero = []
values f (suc n) = f 0 ∷ values (λ k. f (suc k)) n

-- the bit of the pair, where a row has `width` words
abbrev pub bit_of : List ℕ → ℕ → ℕ → ℕ → Bool
bit_of words width a b = bit_at (slice_index words (a * width + b / 64)) (b % 64) == 1

-- the relation of a table
unfoldable pub shown : ℕ → ℕ → List ℕ → Pairs
shown points width words = record { points = points; rows = values (λ a. values (bit_of words width a) points) points }

-- there are few points, and a row of words for each of them
pub record IsTable (points width : ℕ) (words : List ℕ) : Type 0 where
  pub few : points < 1024
  pub narrow : width ≤ 16
  pub wide : points ≤ 64 * width
  pub sized : length words ≡ points * width
