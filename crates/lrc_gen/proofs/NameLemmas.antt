-- What passes the test of names is a name.
use Rattle.std.proofs.Common.{◌≡◌, ℕ, zero, suc, ◌<◌, Bool, true, false, ◌&&◌, List, [], ◌∷◌, length, get_or, nat_lt, nat_le, refl, arith}
use Rattle.lrc_base.specs.declared.limits.TheConstants.{NAME_LIMIT}
use Rattle.std.proofs.lemmas.Bool.Decides.{nat_tests}
use Rattle.lrc_base.specs.Name.{IsName}
use Rattle.lrc_gen.specs.Names.{no_zeros, is_name}

first_true : (a b : Bool) → (a && b) ≡ true → a ≡ true
first_true true b h = refl
first_true false b h = h

second_true : (a b : Bool) → (a && b) ≡ true → b ≡ true
second_true true b h = h
second_true false b h = cc

no_zero_at : (bytes : List ℕ) → no_zeros bytes ≡ true → (k : ℕ) → k < length bytes → get_or bytes k 0 ≡ 0 → ⊥
no_zero_at [] h k lt e = omega arith
no_zero_at (b ∷ bytes) h zero lt e = let positive = first_true (nat_lt 0 b) (no_zeros bytes) h in grind (arith, nat_tests)
no_zero_at (b ∷ bytes) h (suc k) lt e = no_zero_at bytes (second_true (nat_lt 0 b) (no_zeros bytes) h) k (omega arith) e

pub named : (bytes : List ℕ) → is_name bytes ≡ true → IsName bytes
named bytes h =
    let some = first_true (nat_lt 0 (length bytes)) (nat_le (length bytes) NAME_LIMIT && no_zeros bytes) h in
    let rest = second_true (nat_lt 0 (length bytes)) (nat_le (length bytes) NAME_LIMIT && no_zeros bytes) h in
    let at_most = first_true (nat_le (length bytes) NAME_LIMIT) (no_zeros bytes) rest in
    record {
      some = grind (arith, nat_tests);
      at_most = grind (arith, nat_tests);
      no_zero = λ z. no_zero_at bytes (second_true (nat_le (length bytes) NAME_LIMIT) (no_zeros bytes) rest) z.0 z.1 z.2;
    }
