-- Which pairs the words of a table have.
use Rattle.std.proofs.Common.{◌≡◌, ℕ, zero, suc, ◌+◌, ◌*◌, ◌/◌, ◌%◌, ◌<◌, ◌≤◌, ◌∙◌, true, false, List, [], get_or, inl, inr, arith, sym, refl, ap, eq-eqb, eqb-true}
use Rattle.std.specs.Prelude.{◌↔◌}
use Rattle.std.specs.Int.{bit_at}
use Rattle.std.proofs.lemmas.Bool.{cases_lt}
use Rattle.lrc_graph.specs.Pairs.{paired, Has}
use Rattle.lrc_graph.specs.Shown.{values, bit_of, shown}

values-at : {X : Type 0} (f : ℕ → X) (n k : ℕ) (d : X) → k < n → get_or (values f n) k d ≡ f k
values-at f zero k d small = absurd (omega arith)
values-at f (suc n) zero d small = refl
values-at f (suc n) (suc k) d small = values-at (λ j. f (suc j)) n k d (omega arith)

values-past : {X : Type 0} (f : ℕ → X) (n k : ℕ) (d : X) → n ≤ k → get_or (values f n) k d ≡ d
values-past f zero k d large = refl
values-past f (suc n) zero d large = absurd (omega arith)
values-past f (suc n) (suc k) d large = values-past (λ j. f (suc j)) n k d (omega arith)

module _ (points width : ℕ) (words : List ℕ) where
  paired-inside : (a b : ℕ) → a < points → b < points → paired (shown points width words) a b ≡ bit_of words width a b
  unfolding shown paired
  paired-inside a b small fit =
      ap (λ row. get_or row b false) (values-at (λ x. values (bit_of words width x) points) points a [] small)
      ∙ values-at (bit_of words width a) points b false fit

  paired-past_row : (a b : ℕ) → points ≤ a → paired (shown points width words) a b ≡ false
  unfolding shown paired
  paired-past_row a b large =
      ap (λ row. get_or row b false) (values-past (λ x. values (bit_of words width x) points) points a [] large)

  paired-past_column : (a b : ℕ) → a < points → points ≤ b → paired (shown points width words) a b ≡ false
  unfolding shown paired
  paired-past_column a b small large =
      ap (λ row. get_or row b false) (values-at (λ x. values (bit_of words width x) points) points a [] small)
      ∙ values-past (bit_of words width a) points b false large

  pub points-shown : (shown points width words).points ≡ points
  unfolding shown
  points-shown = refl

  -- both points of a pair are below the number of points
  pub within-shown : (a b : ℕ) → Has (shown points width words) a b → (a < points) × (b < points)
  within-shown a b h =
      elim (cases_lt a points) [
        | inl small ↦
            elim (cases_lt b points) [
              | inl fit ↦ (small, fit)
              | inr large ↦ let no_pair = paired-past_column a b small large in absurd (cc)
            ]
        | inr large ↦ let no_pair = paired-past_row a b large in absurd (cc)
      ]

  -- a pair of points is there where its bit is set
  pub has-shown : (a b : ℕ) → a < points → b < points → Has (shown points width words) a b ↔ (bit_of words width a b ≡ true)
  has-shown a b small fit = (λ h. sym (paired-inside a b small fit) ∙ h, λ h. paired-inside a b small fit ∙ h)

-- the bit of a pair is the lowest of its word, shifted down
pub bit-one : (words : List ℕ) (width a b : ℕ)
    → (bit_of words width a b ≡ true) ↔ (bit_at (get_or words (a * width + b / 64) 0) (b % 64) ≡ 1)
bit-one words width a b = (eqb-true _ 1, eq-eqb _ 1)
