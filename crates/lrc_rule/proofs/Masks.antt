-- Remainders of a power of two.
use Rattle.std.proofs.lemmas.Nat.{and_mask, zero_from_ones, ones_le_self}
use Rattle.std.specs.Int.Count.{ones_step}
use Rattle.std.specs.Int.{is_power_of_two}
use Rattle.std.proofs.Math.Nat.{pow-suc}
use Rattle.std.proofs.Common.{◌≡◌, inl, inr, ⊎_elim, ◌⊎◌, ℕ, zero, suc, ◌-◌, ◌*◌, ◌/◌, ◌%◌, ◌^◌, ◌<◌, ◌≤◌, IsTrue, eqb-true, bit_and, count_ones, refl, sym, ◌∙◌, ap, arith}

one_or_none : (m : ℕ) → m < 2 → (m ≡ 1) ⊎ (m ≡ 0)
one_or_none zero small = inr refl
one_or_none (suc m) small = inl (omega (arith, small))

-- a number with one bit has its last bit alone, or half of it has one bit
halved : (n : ℕ) → count_ones n ≡ 1 → (n ≡ 1) ⊎ ((n ≡ 2 * (n / 2)) × (count_ones (n / 2) ≡ 1))
halved n e = let s = ones_step n in ⊎_elim
    (λ odd. inl (let half = zero_from_ones (n / 2) (omega (arith, s, e, odd)) in omega (arith, half, odd)))
    (λ even. inr (omega (arith, even), omega (arith, s, e, even)))
    (one_or_none (n % 2) (omega arith))

power : (d n : ℕ) → n ≤ d → count_ones n ≡ 1 → (k : ℕ) × (n ≡ 2 ^ k)
power zero n h e = let few = ones_le_self n in absurd (omega (arith, few, h, e))
power (suc d) n h e = ⊎_elim
    (λ one. (0, one))
    (λ half. let less : n / 2 ≤ d = omega (arith, h) in let k = power d (n / 2) less half.1 in (suc k.0, half.0 ∙ (ap (λ m. 2 * m) k.1 ∙ omega (arith, pow-suc 2 k.0))))
    (halved n e)

pub masked : (x n : ℕ) → IsTrue (is_power_of_two n) → bit_and x (n - 1) ≡ x % n
masked x n h = let k = power n n (omega arith) (eqb-true (count_ones n) 1 h) in ap (λ m. bit_and x (m - 1)) k.1 ∙ (and_mask x k.0 ∙ ap (λ m. x % m) (sym k.1))
