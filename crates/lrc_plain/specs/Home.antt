-- Where a cell belongs in an index.
use Rattle.std.specs.Prelude.{ℕ, ◌≡◌, ◌<◌, ◌+◌, ◌*◌, ◌/◌, ◌%◌, ◌^◌, bit_xor}
use Rattle.std.specs.Int.{cast_unsigned, w64}
use Rattle.lrc_store.specs.declared.cells.Cell.{Cell}
use Rattle.lrc_store.specs.declared.cells.Cell.TheVariants as cell

-- three words, mixed
unfoldable pub mixed : ℕ → ℕ → ℕ → ℕ
mixed tag one other =
    let p = (tag * 11400714819323198485 % 2 ^ 64 + one) % 2 ^ 64 in
    let q = (bit_xor p (p / 2 ^ 29) * 13787848793156543929 % 2 ^ 64 + other) % 2 ^ 64 in
    bit_xor q (q / 2 ^ 32)

-- the bucket of a cell among so many
unfoldable pub home_of : Cell → ℕ → ℕ
home_of cell.Nil buckets = mixed 0 0 0 % buckets
home_of (cell.Number value) buckets = mixed 0 (cast_unsigned w64 value) 0 % buckets
home_of (cell.Pair tag left right) buckets = mixed tag left.0 right.0 % buckets

-- this is the bucket of the cell
pub record IsBucketOf (bucket : ℕ) (cell : Cell) (buckets : ℕ) : Type 0 where
  pub home : bucket ≡ home_of cell buckets
  pub within : bucket < buckets
