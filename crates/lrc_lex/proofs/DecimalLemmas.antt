-- The value of decimal digits, digit by digit.
use Rattle.std.proofs.Common.{◌≡◌, ℕ, ◌+◌, ◌-◌, ◌*◌, ◌<◌, ◌≤◌, true, List, [], ◌∷◌, length, get_or, take, drop, fold, sym, ap, ◌∙◌, arith, take-append-drop}
use Rattle.std.specs.Char.{is_ascii_digit}
use Rattle.std.proofs.lemmas.Bool.{and_parts, leb-true}
use Rattle.std.proofs.lemmas.List.Sums.{fold_more, fold-append}
use Rattle.lrc_lex.specs.Decimal.{natural_value, IsNegative}

-- a digit lies from 48 to 57
pub digit_range : (c : ℕ) → is_ascii_digit c ≡ true → (48 ≤ c) × (c ≤ 57)
digit_range c digit = let parts = and_parts _ _ digit in (leb-true 48 c parts.0, leb-true c 57 parts.1)

-- what one more digit makes of a value
abbrev push_digit : ℕ → ℕ → ℕ
push_digit value digit = 10 * value + (digit - 48)

-- the value of one more digit
pub natural_value_more : (digits : List ℕ) (i : ℕ) → i < length digits → natural_value (take (i + 1) digits) ≡ 10 * natural_value (take i digits) + (get_or digits i 0 - 48)
natural_value_more digits i h = fold_more push_digit 0 digits i 0 h

-- more digits make no value smaller
fold_grows : (value : ℕ) (digits : List ℕ) → value ≤ fold push_digit value digits
fold_grows value [] = omega arith
fold_grows value (digit ∷ digits) = omega (arith, fold_grows (push_digit value digit) digits)

-- the digits at the front have no greater value than all
pub natural_value_take_le : (digits : List ℕ) (n : ℕ) → natural_value (take n digits) ≤ natural_value digits
natural_value_take_le digits n =
    let whole : natural_value digits ≡ fold push_digit (natural_value (take n digits)) (drop n digits) = ap natural_value (sym (take-append-drop n digits)) ∙ fold-append push_digit 0 (take n digits) (drop n digits) in
    omega (arith, whole, fold_grows (natural_value (take n digits)) (drop n digits))

-- a negative number has more than its `-`
pub negative_some : (bytes : List ℕ) → IsNegative bytes → 1 ≤ length bytes
negative_some [] h = absurd (omega (arith, h.some))
negative_some (c ∷ rest) h = omega arith
