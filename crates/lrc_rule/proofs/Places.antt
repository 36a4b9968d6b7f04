-- The words of a layout are apart, and there is room for them.
use Rattle.std.proofs.Common.{◌≡◌, ◌≢◌, ⊎_elim, ℕ, ◌<◌, sym, subst, arith}
use Rattle.lrc_rule.specs.declared.layout.Layout.{Layout}
use Rattle.lrc_rule.specs.Layout.{IsLayout, HasRoom, word_count, bucket_at, part_at, memo_at, IsBucket, IsPart, IsBucketOrPart}

-- ---- words at one place are one

pub same_bucket : (l : Layout) (place other : ℕ) → bucket_at l place ≡ bucket_at l other → place ≡ other
unfolding bucket_at
same_bucket l place other e = omega (arith, e)

pub same_part : (l : Layout) (row k other j : ℕ) → k < 4 → j < 4 → part_at l row k ≡ part_at l other j → (row ≡ other) × (k ≡ j)
unfolding part_at
same_part l row k other j small less e = (omega (arith, e), omega (arith, e))

pub same_memo : (l : Layout) (place other : ℕ) → memo_at l place ≡ memo_at l other → place ≡ other
unfolding memo_at
same_memo l place other e = omega (arith, e)

-- ---- words of two kinds are two

pub bucket_no_part : (l : Layout) (place row k : ℕ) → place < l.buckets → bucket_at l place ≢ part_at l row k
unfolding bucket_at part_at
bucket_no_part l place row k inside e = omega (arith, e, inside)

pub bucket_no_memo : (l : Layout) (place other : ℕ) → place < l.buckets → bucket_at l place ≢ memo_at l other
unfolding bucket_at memo_at
bucket_no_memo l place other inside e = omega (arith, e, inside)

pub part_no_memo : (l : Layout) (row k place : ℕ) → row < l.rows → k < 4 → part_at l row k ≢ memo_at l place
unfolding part_at memo_at
part_no_memo l row k place there small e = omega (arith, e, there, small)

-- ---- there is room for each

pub bucket-within : (l : Layout) (words place : ℕ) → HasRoom l words → place < l.buckets → bucket_at l place < words
unfolding word_count bucket_at
bucket-within l words place room inside = omega (arith, room, inside)

pub part-within : (l : Layout) (words row k : ℕ) → HasRoom l words → row < l.rows → k < 4 → part_at l row k < words
unfolding word_count part_at
part-within l words row k room there small = omega (arith, room, there, small)

pub memo-within : (l : Layout) (words place : ℕ) → HasRoom l words → place < l.memo → memo_at l place < words
unfolding word_count memo_at
memo-within l words place room inside = omega (arith, room, inside)

pub bucket_or_part-within : (l : Layout) (words word : ℕ) → HasRoom l words → IsBucketOrPart l word → word < words
bucket_or_part-within l words word room h = ⊎_elim
    (λ (b : IsBucket l word). subst (λ n. n < words) (sym b.2) (bucket-within l words b.0 room b.1))
    (λ (p : IsPart l word). subst (λ n. n < words) (sym p.4) (part-within l words p.0 p.1 room p.2 p.3)) h

-- ---- the first bucket

pub some_bucket : (l : Layout) → IsLayout l → 0 < l.buckets
some_bucket l h = let some = h.some_row in let twice = h.buckets.1 in omega (arith, some, twice)

pub some_word : (l : Layout) (words : ℕ) → HasRoom l words → IsLayout l → 0 < words
some_word l words room h = let first = bucket-within l words 0 room (some_bucket l h) in omega (arith, first)
