-- A test of the names that stand in the code.
use Rattle.std.specs.Prelude.{ℕ, Bool, true, List, [], ◌∷◌, length, ◌&&◌, nat_lt, nat_le}
use Rattle.lrc_base.specs.declared.limits.TheConstants.{NAME_LIMIT}

-- none of the bytes is 0
abbrev pub no_zeros : List ℕ → Bool
no_zeros [] = true
no_zeros (b ∷ bytes) = nat_lt 0 b && no_zeros bytes

-- 1 to 64 bytes, none of them 0
abbrev pub is_name : List ℕ → Bool
is_name bytes = nat_lt 0 (length bytes) && (nat_le (length bytes) NAME_LIMIT && no_zeros bytes)
