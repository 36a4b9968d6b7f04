-- Rows of cells in chains: each row names the last earlier row of its bucket, and each bucket its last row.
use Rattle.std.specs.Prelude.{ℕ, ◌≡◌, ◌+◌, ◌<◌, ◌≤◌, List, length, slice_index, slice_index_or}
use Rattle.lrc_store.specs.declared.cells.Cell.{Cell}
use Rattle.lrc_store.specs.declared.cells.Cell.TheVariants as cell
use Rattle.lrc_plain.specs.declared.chains.Row.{Row}
use Rattle.lrc_plain.specs.Home.{home_of}

-- the row at a place, or a row of nil
abbrev pub row_at : List Row → ℕ → Row
row_at rows i = slice_index_or rows i (record { cell = cell.Nil; earlier = 0 })

-- the bucket of the row at a place
abbrev pub bucket_at : List Row → ℕ → ℕ → ℕ
bucket_at rows buckets i = home_of (row_at rows i).cell buckets

-- each row names the last earlier row of its bucket, by its place plus one, or 0
pub record IsChained (rows : List Row) (buckets : ℕ) : Type 0 where
  pub less : (i : ℕ) → i < length rows → (row_at rows i).earlier ≤ i
  pub alike : (i j : ℕ) → i < length rows → (row_at rows i).earlier ≡ j + 1 → bucket_at rows buckets j ≡ bucket_at rows buckets i
  pub covers : (i j : ℕ) → j < length rows → i < j → bucket_at rows buckets i ≡ bucket_at rows buckets j → i < (row_at rows j).earlier

-- each bucket names its last row, by its place plus one, or 0
pub record IsHeaded (rows : List Row) (heads : List ℕ) : Type 0 where
  pub within : (b : ℕ) → b < length heads → slice_index heads b ≤ length rows
  pub alike : (b j : ℕ) → b < length heads → slice_index heads b ≡ j + 1 → bucket_at rows (length heads) j ≡ b
  pub covers : (i : ℕ) → i < length rows → i < slice_index heads (bucket_at rows (length heads) i)

-- the cell is that of the row at the place
abbrev pub IsAt : List Row → Cell → ℕ → Type 0
IsAt rows cell i = (i < length rows) × ((row_at rows i).cell ≡ cell)
