-- The first table with a point that is paired with itself.
use Rattle.std.specs.Prelude.{ℕ, ◌<◌, List, length, Some}
use Rattle.lrc_graph.specs.Pairs.{Pairs, IsLeast}
use Rattle.lrc_ordered.specs.Tables.{HasAt}

-- no table below n has such a point
abbrev pub HasNoneBelow : List Pairs → ℕ → Type 0
HasNoneBelow tables n = (i : ℕ) → i < n → (x : ℕ) → ¬ HasAt tables i x x

abbrev pub HasNone : List Pairs → Type 0
HasNone tables = HasNoneBelow tables (length tables)

-- the table of this number is the first that has one, and this is the least
pub record IsFirst (tables : List Pairs) (i x : ℕ) : Type 0 where
  pub is_there : i < length tables
  pub none_earlier : HasNoneBelow tables i
  pub least : IsLeast (λ y. HasAt tables i y y) (Some x)
