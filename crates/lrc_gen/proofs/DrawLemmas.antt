-- Drawings in a row: none, and one more behind the others.
use Rattle.std.proofs.Common.{◌≡◌, ℕ, zero, suc, ◌+◌, List, [], ◌∷◌, ◌++◌, refl, sym, ap, ◌∙◌, add-one, append_assoc}
use Rattle.lrc_gen.specs.Drawing.{Drawing, row}

pub row_none : {A : Type 0} (each : Drawing A) (x : ℕ) → row 0 each x ≡ ([], x)
unfolding row
row_none each x = refl

row_suc : {A : Type 0} (each : Drawing A) (n x : ℕ) →
    row (suc n) each x ≡ ((row n each x).0 ++ (each (row n each x).1).0 ∷ [], (each (row n each x).1).1)
unfolding row
row_suc each zero x = refl
row_suc {A} each (suc n) x = ap (λ (p : List A × ℕ). ((each x).0 ∷ p.0, p.1)) (row_suc each n (each x).1)

pub row_more : {A : Type 0} (each : Drawing A) (n x : ℕ) →
    row (n + 1) each x ≡ ((row n each x).0 ++ (each (row n each x).1).0 ∷ [], (each (row n each x).1).1)
row_more each n x = rw add-one (row_suc each n x)

-- behind what was there before, one drawing more
module _ {A : Type 0} (each : Drawing A) (n x : ℕ) (before items more : List A) (s : ℕ) (a : A) (t : ℕ) where
  pub next_items : items ≡ before ++ (row n each x).0 → s ≡ (row n each x).1 → a ≡ (each s).0 → more ≡ items ++ a ∷ [] → more ≡ before ++ (row (n + 1) each x).0
  next_items is_items is_s is_a is_more =
      is_more ∙ ap (λ xs. xs ++ a ∷ []) is_items ∙ append_assoc before (row n each x).0 (a ∷ [])
      ∙ ap (λ b. before ++ ((row n each x).0 ++ b ∷ [])) (is_a ∙ ap (λ u. (each u).0) is_s)
      ∙ ap (λ (p : List A × ℕ). before ++ p.0) (sym (row_more each n x))

  pub next_state : s ≡ (row n each x).1 → t ≡ (each s).1 → t ≡ (row (n + 1) each x).1
  next_state is_s is_t = is_t ∙ ap (λ u. (each u).1) is_s ∙ ap (λ (p : List A × ℕ). p.1) (sym (row_more each n x))
