-- Draws: each number comes from the state that the draw before it left behind.
use Rattle.std.specs.Prelude.{ℕ, zero, suc, ◌+◌, ◌*◌, ◌%◌, List, [], ◌∷◌}

-- what is drawn from a state, and the state behind it
abbrev pub Drawing : Type 0 → Type 0
Drawing A = ℕ → A × ℕ

-- one drawing, and then another
infixl 10 ◌>>=◌
abbrev pub ◌>>=◌ : {A B : Type 0} → Drawing A → (A → Drawing B) → Drawing B
first >>= next = λ x. next (first x).0 (first x).1

-- what is drawn without a draw
abbrev pub pure : {A : Type 0} → A → Drawing A
pure a = λ x. (a, x)

-- the state behind a draw
abbrev pub following : ℕ → ℕ
following x = (75 * x + 74) % 65537

-- a number below a bound
abbrev pub draw : ℕ → Drawing ℕ
draw bound = λ x. (following x % bound, following x)

-- so many in a row
unfoldable pub row : {A : Type 0} → ℕ → Drawing A → Drawing (List A)
row zero each = pure []
row (suc n) each = do
  a ← each
  more ← row n each
  pure (a ∷ more)
