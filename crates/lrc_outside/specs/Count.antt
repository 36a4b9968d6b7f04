-- Counts that have a last value, at which they stay.
use Rattle.std.specs.Prelude.{◌≡◌, ℕ, ◌+◌, ◌-◌, ◌^◌, ◌<◌, ◌≤◌, min, ◌⊎◌, Result, Ok, Err}
use Rattle.std.proofs.Common.{arith}

-- the count rose, or it stands at its last value
abbrev pub Rose : ℕ → ℕ → Type 0
Rose old new = (old < new) ⊎ (new ≡ 2 ^ 64 - 1)

-- a number as a count, which stays at its last value
abbrev pub capped : ℕ → ℕ
capped n = min n (2 ^ 64 - 1)

-- the count after one more
abbrev pub next_count : ℕ → ℕ
next_count n = capped (n + 1)

-- the count after a call: each error is one more fault
abbrev pub count_after : {T E : Type 0} → Result T E → ℕ → ℕ
count_after (Ok _) n = n
count_after (Err _) n = next_count n

pub capped_at_most : (n : ℕ) → capped n ≤ 2 ^ 64 - 1
capped_at_most n = omega arith
