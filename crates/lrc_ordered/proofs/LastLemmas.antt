-- A transitive relation without a cycle leads from some point with a property to no other that has it.
use Rattle.std.proofs.Common.{ℕ, zero, suc, ◌<◌, ◌⊎◌, inl, inr, subst, arith}
use Rattle.std.proofs.lemmas.Bool.{cases_eq}
use Rattle.lrc_graph.specs.Pairs.{IsTransitive}

-- one below n with the property, from which none leads to another
pub record Last (P : ℕ → Type 0) (R : ℕ → ℕ → Type 0) (n : ℕ) : Type 0 where
  pub point : ℕ
  pub small : point < n
  pub has : P point
  pub none_after : (b : ℕ) → b < n → P b → ¬ R point b

module _ (P : ℕ → Type 0) (decide : (x : ℕ) → P x ⊎ (¬ P x)) (R : ℕ → ℕ → Type 0) (look : (x y : ℕ) → R x y ⊎ (¬ R x y))
    (whole : IsTransitive R) (none : (x : ℕ) → ¬ R x x) where
  over : (n : ℕ) → P n → (l : Last P R n) → R l.point n ⊎ (¬ R l.point n) → Last P R (suc n)
  over n here l (inl r) = record {
    point = n;
    small = omega arith;
    has = here;
    none_after = λ b less has s.
        elim (cases_eq b n) [
          | inl e ↦ none n (subst (R n) e s)
          | inr ne ↦ l.none_after b (omega arith) has (whole l.point n b r s)
        ];
  }
  over n here l (inr other) = record {
    point = l.point;
    small = let less = l.small in omega arith;
    has = l.has;
    none_after = λ b less has s.
        elim (cases_eq b n) [
          | inl e ↦ other (subst (R l.point) e s)
          | inr ne ↦ l.none_after b (omega arith) has s
        ];
  }

  with_next : (n : ℕ) → P n → ((a : ℕ) → a < n → ¬ P a) ⊎ Last P R n → Last P R (suc n)
  with_next n here (inl nobody) = record {
    point = n;
    small = omega arith;
    has = here;
    none_after = λ b less has s.
        elim (cases_eq b n) [
          | inl e ↦ none n (subst (R n) e s)
          | inr ne ↦ nobody b (omega arith) has
        ];
  }
  with_next n here (inr l) = over n here l (look l.point n)

  without_next : (n : ℕ) → (¬ P n) → ((a : ℕ) → a < n → ¬ P a) ⊎ Last P R n → ((a : ℕ) → a < suc n → ¬ P a) ⊎ Last P R (suc n)
  without_next n not_here (inl nobody) =
      inl (λ a less has. elim (cases_eq a n) [ inl e ↦ not_here (subst P e has) | inr ne ↦ nobody a (omega arith) has ])
  without_next n not_here (inr l) =
      inr (record {
        point = l.point;
        small = let less = l.small in omega arith;
        has = l.has;
        none_after = λ b less has s.
            elim (cases_eq b n) [
              | inl e ↦ not_here (subst P e has)
              | inr ne ↦ l.none_after b (omega arith) has s
            ];
      })

  pub last_below : (n : ℕ) → ((a : ℕ) → a < n → ¬ P a) ⊎ Last P R n
  last_below zero = inl (λ a less has. absurd (omega arith))
  last_below (suc n) =
      elim (decide n) [
        | inl here ↦ inr (with_next n here (last_below n))
        | inr not_here ↦ without_next n not_here (last_below n)
      ]
