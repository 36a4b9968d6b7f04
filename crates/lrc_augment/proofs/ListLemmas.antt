-- Lists: whether any of a list passes, and what passes behind the first that does.
use Rattle.std.proofs.Common.{◌≡◌, ℕ, zero, suc, ◌+◌, ◌<◌, ◌≤◌, ◌⊎◌, inl, inr, Bool, true, false, not, ◌||◌, cond, List, [], ◌∷◌, ◌++◌, map, flat_map, filter, length, get_or, drop, Option, Some, None, position, refl, sym, ap, ◌∙◌, subst, arith, one-add, add-one, lt-ltb, nat_lt}
use Rattle.std.specs.List.{list_any, position_or_len}
use Rattle.std.proofs.lemmas.Bool.{cases_lt}
use Rattle.std.proofs.lemmas.List.Folds.{list_any-append}
use Rattle.std.proofs.lemmas.List.Quantifiers.{position-Some}

pub any_flat : {A B : Type 0} (p : B → Bool) (f : A → List B) (xs : List A) → list_any p (flat_map f xs) ≡ list_any (λ x. list_any p (f x)) xs
any_flat p f [] = refl
any_flat p f (x ∷ xs) = list_any-append p (f x) (flat_map f xs) ∙ ap (λ b. list_any p (f x) || b) (any_flat p f xs)

-- tests that agree at each item find alike
pub any_same : {A : Type 0} (p q : A → Bool) (xs : List A) → ((x : A) → p x ≡ q x) → list_any p xs ≡ list_any q xs
any_same p q [] same = refl
any_same p q (x ∷ xs) same = ap (λ b. b || list_any p xs) (same x) ∙ ap (λ b. q x || b) (any_same p q xs same)

module _ {A : Type 0} (p : A → Bool) where
  -- where none passes
  pub none_pass : (xs : List A) → list_any p xs ≡ false → filter p xs ≡ []
  none_pass [] none = refl
  none_pass (x ∷ xs) none = by (p x) none (none_pass xs)
    where
      by : (b : Bool) → (b || list_any p xs) ≡ false → (list_any p xs ≡ false → filter p xs ≡ []) → cond b (x ∷ filter p xs) (filter p xs) ≡ []
      by true none rest = absurd (cc)
      by false none rest = rest none

  -- where one passes
  pub some_passes : (xs : List A) → list_any p xs ≡ true → (y : A) × (ys : List A) × (filter p xs ≡ y ∷ ys)
  some_passes [] some = absurd (cc)
  some_passes (x ∷ xs) some = by (p x) some (some_passes xs)
    where
      by : (b : Bool) → (b || list_any p xs) ≡ true → (list_any p xs ≡ true → (y : A) × (ys : List A) × (filter p xs ≡ y ∷ ys)) → (y : A) × (ys : List A) × (cond b (x ∷ filter p xs) (filter p xs) ≡ y ∷ ys)
      by true some rest = (x, filter p xs, refl)
      by false some rest = rest some

  none_before : (xs : List A) → length xs ≤ position_or_len p xs → filter p xs ≡ []
  none_before [] le = refl
  none_before (x ∷ xs) le = by (p x) le (none_before xs)
    where
      by : (b : Bool) → suc (length xs) ≤ cond (not b) (1 + position_or_len p xs) 0 → (length xs ≤ position_or_len p xs → filter p xs ≡ []) → cond b (x ∷ filter p xs) (filter p xs) ≡ []
      by true le rest = absurd (omega (arith, le))
      by false le rest = rest (omega (arith, le))

  -- where there is no first
  pub no_first : (xs : List A) → position p xs ≡ None → filter p xs ≡ []
  no_first xs none = by (cases_lt (position_or_len p xs) (length xs))
    where
      by : (position_or_len p xs < length xs) ⊎ (length xs ≤ position_or_len p xs) → filter p xs ≡ []
      by (inl lt) =
          absurd (let some : position p xs ≡ Some (position_or_len p xs) = ap (λ b. cond b (Some (position_or_len p xs)) None) (lt-ltb (position_or_len p xs) (length xs) lt) in cc)
      by (inr le) = none_before xs le

  first_at : (xs : List A) (i : ℕ) (x : A) → i < length xs → x ≡ get_or xs i x → p x ≡ true → ((k : ℕ) (d : A) → k < i → p (get_or xs k d) ≡ false) → filter p xs ≡ x ∷ filter p (drop (suc i) xs)
  first_at [] i x lt is passes before = absurd (omega (arith, lt))
  first_at (y ∷ ys) zero x lt is passes before =
      subst (λ z. filter p (z ∷ ys) ≡ x ∷ filter p ys) is (ap (λ b. cond b (x ∷ filter p ys) (filter p ys)) passes)
  first_at (y ∷ ys) (suc i) x lt is passes before =
      ap (λ b. cond b (y ∷ filter p ys) (filter p ys)) (before 0 y (omega arith)) ∙ first_at ys i x (omega (arith, lt)) is passes (λ k d less. before (suc k) d (omega (arith, less)))

  -- the first that passes, and then what passes behind it
  pub first_passes : (xs : List A) (i : ℕ) (x : A) → position p xs ≡ Some i → x ≡ get_or xs i x → filter p xs ≡ x ∷ filter p (drop (i + 1) xs)
  first_passes xs i x at is =
      let first = position-Some p xs i x at in
      rw add-one (first_at xs i x first.0 is (ap p is ∙ first.1) (λ k d less. (position-Some p xs i d at).2 k less))
