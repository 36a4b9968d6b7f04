-- The words that stand for a name in a fault are names.
use Rattle.std.proofs.Common.{◌≡◌, ℕ, zero, suc, ◌<◌, get_or, lit≤, codes, arith}
use Rattle.lrc_base.specs.Name.{IsName}

no_zero_in_start : (k : ℕ) → k < 5 → get_or (codes "start") k 0 ≡ 0 → ⊥
no_zero_in_start zero lt e = omega arith
no_zero_in_start (suc zero) lt e = omega arith
no_zero_in_start (suc (suc zero)) lt e = omega arith
no_zero_in_start (suc (suc (suc zero))) lt e = omega arith
no_zero_in_start (suc (suc (suc (suc zero)))) lt e = omega arith
no_zero_in_start (suc (suc (suc (suc (suc k))))) lt e = omega arith

pub start_is_name : IsName (codes "start")
start_is_name = record { some = lit≤ tt; at_most = lit≤ tt; no_zero = λ h. no_zero_in_start h.0 h.1 h.2 }

no_zero_in_text : (k : ℕ) → k < 4 → get_or (codes "text") k 0 ≡ 0 → ⊥
no_zero_in_text zero lt e = omega arith
no_zero_in_text (suc zero) lt e = omega arith
no_zero_in_text (suc (suc zero)) lt e = omega arith
no_zero_in_text (suc (suc (suc zero))) lt e = omega arith
no_zero_in_text (suc (suc (suc (suc k)))) lt e = omega arith

pub text_is_name : IsName (codes "text")
text_is_name = record { some = lit≤ tt; at_most = lit≤ tt; no_zero = λ h. no_zero_in_text h.0 h.1 h.2 }
