-- What whole runs of calls do to the bytes that a source has left and a sink holds, where they are told.
use Rattle.std.specs.Prelude.{◌≡◌, ℕ, ◌<◌, ◌≤◌, Option, List, length, take, drop, ⊤, None, Some}
use Rattle.std.specs.Io.KnownBytes.{Appends, Consumes}

-- known bytes grow by the first bytes of bs, but not by all of them
abbrev pub AppendsPart : Option (List ℕ) → Option (List ℕ) → List ℕ → Type 0
AppendsPart old new bs = (n : ℕ) × (n < length bs) × Appends old new (take n bs)

-- bs are the first bytes of the known ones, at most n, and the rest of these are left
abbrev pub TakesUpTo : ℕ → Option (List ℕ) → Option (List ℕ) → List ℕ → Type 0
TakesUpTo n None new bs = ⊤
TakesUpTo n (Some xs) new bs = (bs ≡ take n xs) × (new ≡ Some (drop n xs))

-- known bytes lose some bytes of their front, at most n
abbrev pub LosesUpTo : ℕ → Option (List ℕ) → Option (List ℕ) → Type 0
LosesUpTo n old new = (bs : List ℕ) × (length bs ≤ n) × Consumes old new bs
