-- Relations over points, paths along them, and the first point with a property.
use Rattle.std.specs.Prelude.{◌≡◌, ℕ, ◌<◌, Bool, false, IsTrue, Option, None, Some, ◌↔◌, ◌⊎◌, List, [], slice_index_or}

-- a relation over the points below a number: the row of a point says with which points it is paired
pub record Pairs : Type 0 where
  pub points : ℕ
  pub rows : List (List Bool)

-- whether the first point is paired with the second
unfoldable pub paired : Pairs → ℕ → ℕ → Bool
paired r a b = slice_index_or (slice_index_or r.rows a []) b false

-- the pair is in the relation
abbrev pub Has : Pairs → ℕ → ℕ → Type 0
Has r a b = IsTrue (paired r a b)

-- its pairs are exactly those
abbrev pub HasExactly : Pairs → (ℕ → ℕ → Type 0) → Type 0
HasExactly r R = (x y : ℕ) → Has r x y ↔ R x y

-- the pairs of R, and the pair of a and b
abbrev pub With : (ℕ → ℕ → Type 0) → ℕ → ℕ → ℕ → ℕ → Type 0
With R a b x y = R x y ⊎ ((x ≡ a) × (y ≡ b))

-- a path along R: one step, or a step and then a path
pub data Path (R : ℕ → ℕ → Type 0) : ℕ → ℕ → Type 0 where
  step : (a b : ℕ) → R a b → Path R a b
  onward : (a b c : ℕ) → R a b → Path R b c → Path R a c

-- two steps are one
abbrev pub IsTransitive : (ℕ → ℕ → Type 0) → Type 0
IsTransitive R = (a b c : ℕ) → R a b → R b c → R a c

-- the least number with the property, or none where there is none
abbrev pub IsLeast : (ℕ → Type 0) → Option ℕ → Type 0
IsLeast P None = (n : ℕ) → ¬ P n
IsLeast P (Some least) = P least × ((n : ℕ) → n < least → ¬ P n)
