-- A pass that finds a new pair leaves fewer missing.
use Rattle.std.proofs.Common.{◌≡◌, ℕ, zero, suc, ◌<◌, ◌≤◌, Bool, true, false, cond, List, length, inl, inr, sym, refl, subst, arith, le_refl, zero-le}
use Rattle.std.proofs.lemmas.Bool.{cases_eq, true≢false}
use Rattle.lrc_graph.specs.Pairs.{Pairs, paired, Has}
use Rattle.lrc_ordered.specs.Tables.{table_at, GatheredAll}
use Rattle.lrc_ordered.specs.Missing.{sum_below, missing_in, missing}

pub sum_le : (f g : ℕ → ℕ) (n : ℕ) → ((k : ℕ) → k < n → f k ≤ g k) → sum_below f n ≤ sum_below g n
sum_le f g zero le = le_refl 0
sum_le f g (suc n) le =
    let rest = sum_le f g n (λ k h. le k (omega arith)) in
    let last = le n (omega arith) in
    omega arith

pub sum_lt : (f g : ℕ → ℕ) (n j : ℕ) → ((k : ℕ) → k < n → f k ≤ g k) → j < n → f j < g j → sum_below f n < sum_below g n
sum_lt f g zero j le h less = absurd (omega arith)
sum_lt f g (suc n) j le h less =
    elim (cases_eq j n) [
      | inl e ↦
          let rest = sum_le f g n (λ k small. le k (omega arith)) in
          let last : f n < g n = subst (λ k. f k < g k) e less in
          omega arith
      | inr ne ↦
          let rest = sum_lt f g n j (λ k small. le k (omega arith)) (omega arith) less in
          let last = le n (omega arith) in
          omega arith
    ]

-- one pair
lacks : Bool → ℕ
lacks b = cond b 0 1

lacks_le : (a b : Bool) → (a ≡ true → b ≡ true) → cond b 0 1 ≤ cond a 0 1
lacks_le a true h = zero-le
lacks_le true false h = absurd (true≢false (sym (h refl)))
lacks_le false false h = le_refl 1

lacks_lt : (a b : Bool) → (¬ (a ≡ true)) → b ≡ true → cond b 0 1 < cond a 0 1
lacks_lt true b no_a b_true = absurd (no_a refl)
lacks_lt false true no_a b_true = le_refl 1
lacks_lt false false no_a b_true = absurd (true≢false (sym b_true))

module _ (old new : Pairs) (points : new.points ≡ old.points) (kept : (x y : ℕ) → Has old x y → Has new x y) where
  abbrev row : Pairs → ℕ → ℕ → ℕ
  row t n x = sum_below (λ y. cond (paired t x y) 0 1) n

  row_le : (n x : ℕ) → row new n x ≤ row old n x
  row_le n x = sum_le (λ y. cond (paired new x y) 0 1) (λ y. cond (paired old x y) 0 1) n (λ y h. lacks_le (paired old x y) (paired new x y) (kept x y))

  pub in_le : missing_in new ≤ missing_in old
  in_le =
      subst (λ n. sum_below (row new n) n ≤ missing_in old) (sym points)
      (sum_le (row new old.points) (row old old.points) old.points (λ x h. row_le old.points x))

  pub in_lt : (x y : ℕ) → x < old.points → y < old.points → Has new x y → (¬ Has old x y) → missing_in new < missing_in old
  in_lt x y x_in y_in has not_had =
      subst (λ n. sum_below (row new n) n < missing_in old) (sym points)
      (sum_lt (row new old.points) (row old old.points) old.points x (λ k h. row_le old.points k) x_in
      (sum_lt (λ z. cond (paired new x z) 0 1) (λ z. cond (paired old x z) 0 1) old.points y
      (λ z h. lacks_le (paired old x z) (paired new x z) (kept x z)) y_in (lacks_lt (paired old x y) (paired new x y) not_had has)))

pub fewer_missing : (old new : List Pairs) (E : ℕ → ℕ → ℕ → Type 0) → GatheredAll old new true E → missing new < missing old
unfolding missing
fewer_missing old new E pass =
    let m = pass.more refl in
    subst (λ n. sum_below (λ s. missing_in (table_at new s)) n < missing old) (sym pass.tables)
    (sum_lt (λ s. missing_in (table_at new s)) (λ s. missing_in (table_at old s)) (length old) m.0
    (λ s h. in_le (table_at old s) (table_at new s) (pass.points s) (λ x y p. (pass.exact s x y).1 (inl p))) m.5
    (in_lt (table_at old m.0) (table_at new m.0) (pass.points m.0) (λ x y p. (pass.exact m.0 x y).1 (inl p)) m.1 m.2 m.6 m.7 m.3 m.4))
