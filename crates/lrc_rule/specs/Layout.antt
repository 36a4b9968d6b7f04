-- Where the words of a table lie: first the buckets, then four words for each row, then the memo words. Which word is which is said in this file alone.
use Rattle.std.specs.Prelude.{ℕ, ◌≡◌, ◌⊎◌, ◌+◌, ◌*◌, ◌<◌, ◌≤◌, ◌^◌}
use Rattle.std.specs.Int.{IsNextPowerOfTwo}
use Rattle.lrc_rule.specs.declared.layout.Layout.{Layout}

-- there is a row and a memo word, and the buckets are the least power of two that is at least twice the rows
pub record IsLayout (l : Layout) : Type 0 where
  pub some_row : 1 ≤ l.rows
  pub rows : l.rows ≤ 2 ^ 24
  pub buckets : IsNextPowerOfTwo (2 * l.rows) l.buckets
  pub some_memo : 1 ≤ l.memo
  pub memo : l.memo ≤ 2 ^ 24

-- how many words there are
unfoldable pub word_count : Layout → ℕ
word_count l = l.buckets + 4 * l.rows + l.memo

-- which word is the bucket at a place
unfoldable pub bucket_at : Layout → ℕ → ℕ
bucket_at l place = place

-- which word is one of the four parts of a row: its tag, its left and right word, and its depth
unfoldable pub part_at : Layout → ℕ → ℕ → ℕ
part_at l row part = l.buckets + (4 * row + part)

-- which word is a memo word
unfoldable pub memo_at : Layout → ℕ → ℕ
memo_at l place = l.buckets + 4 * l.rows + place

-- a table of so many words has room for its layout: they are just those that it says
abbrev pub HasRoom : Layout → ℕ → Type 0
HasRoom l words = words ≡ word_count l

-- the word is a bucket
abbrev pub IsBucket : Layout → ℕ → Type 0
IsBucket l word = (place : ℕ) × (place < l.buckets) × (word ≡ bucket_at l place)

-- the word is a part of a row
abbrev pub IsPart : Layout → ℕ → Type 0
IsPart l word = (row : ℕ) × (part : ℕ) × (row < l.rows) × (part < 4) × (word ≡ part_at l row part)

-- the word is one of these, and so no memo word
abbrev pub IsBucketOrPart : Layout → ℕ → Type 0
IsBucketOrPart l word = IsBucket l word ⊎ IsPart l word
