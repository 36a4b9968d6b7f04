-- What a number in decimal digits stands for.
use Rattle.std.specs.Prelude.{◌≡◌, ℕ, ◌+◌, ◌-◌, ◌*◌, ◌≤◌, ◌==◌, true, List, length, drop, fold}
use Rattle.std.specs.Char.{is_ascii_digit}
use Rattle.std.specs.List.{AllPass}
use Rattle.lrc_lex.specs.Forms.{begins_with}

-- the value of decimal digits, the most significant one first
abbrev pub natural_value : List ℕ → ℕ
natural_value digits = fold (λ value digit. 10 * value + (digit - 48)) 0 digits

-- one decimal digit or more, whose value is at most 2 ^ 63 - 1
pub record IsNatural (digits : List ℕ) : Type 0 where
  pub some : 1 ≤ length digits
  pub digits_only : AllPass is_ascii_digit digits
  pub in_range : natural_value digits ≤ 9223372036854775807

-- `-`, which is 45, and one decimal digit or more, whose value is at most 2 ^ 63
pub record IsNegative (bytes : List ℕ) : Type 0 where
  pub minus : begins_with (λ c. c == 45) bytes ≡ true
  pub some : 1 ≤ length (drop 1 bytes)
  pub digits_only : AllPass is_ascii_digit (drop 1 bytes)
  pub in_range : natural_value (drop 1 bytes) ≤ 9223372036854775808
