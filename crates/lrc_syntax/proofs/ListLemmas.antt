-- What holds of the elements before a place of a list, and of one more.
use Rattle.std.proofs.Common.{◌≡◌, ℕ, zero, suc, inl, inr, ◌+◌, ◌<◌, ◌≤◌, ◌⊎◌, List, [], ◌∷◌, ◌++◌, length, get_or, map, take, All, Any, Some, slice_get, sym, ap, subst, ◌∙◌, arith, refl}
use Rattle.std.proofs.lemmas.List.{get_or_read, take_more}
use Rattle.std.proofs.lemmas.Bool.{cases_eq}
use Rattle.std.proofs.lemmas.List.Elements.{All-append}
use Rattle.std.proofs.lemmas.Option.{slice_get_read}

-- none of the elements before a place
abbrev pub NoneBefore : {X : Type 0} → (X → Type 0) → List X → ℕ → Type 0
NoneBefore {X} P xs i = (k : ℕ) (x : X) → k < i → k < length xs → get_or xs k x ≡ x → ¬ P x

pub none_more : {X : Type 0} (P : X → Type 0) (xs : List X) (i : ℕ) (x : X) → NoneBefore P xs i → i < length xs → x ≡ get_or xs i x → ¬ P x → NoneBefore P xs (i + 1)
none_more P xs i x before lt is no_p k y less within at holds =
    none_here P xs i x before lt is no_p k y within at holds (cases_eq k i) (λ e. omega (arith, less, e))
  where
    none_here : {X : Type 0} (P : X → Type 0) (xs : List X) (i : ℕ) (x : X) → NoneBefore P xs i → i < length xs → x ≡ get_or xs i x → ¬ P x → (k : ℕ) (y : X) → k < length xs → get_or xs k y ≡ y → P y → (k ≡ i) ⊎ (k ≡ i → ⊥) → (¬ (k ≡ i) → k < i) → ⊥
    none_here P xs i x before lt is no_p k y within at holds (inr other) less = before k y (less other) within at holds
    none_here P xs i x before lt is no_p k y within at holds (inl e) less =
        no_p (subst P (sym (get_or_read xs i x lt is y ∙ ap (λ j. get_or xs j y) (sym e) ∙ at)) holds)

pub none_of_all : {X : Type 0} (P : X → Type 0) (xs : List X) (i : ℕ) → NoneBefore P xs i → length xs ≤ i → ¬ Any P xs
none_of_all P xs i before all (k, x, lt, at, holds) = before k x (omega arith) lt at holds

pub all_one : {X : Type 0} (P : X → Type 0) (x : X) → P x → All P (x ∷ [])
all_one P x p zero d lt = p
all_one P x p (suc k) d lt = absurd (omega arith)

pub all_push : {X : Type 0} (P : X → Type 0) (xs : List X) (x : X) → All P xs → P x → All P (xs ++ x ∷ [])
all_push P xs x all p = All-append P xs (x ∷ []) all (all_one P x p)

-- one more of the first elements
pub take_one_more : {X : Type 0} (xs : List X) (i : ℕ) (x : X) → i < length xs → x ≡ get_or xs i x → take (i + 1) xs ≡ take i xs ++ x ∷ []
take_one_more xs i x lt is = take_more xs i x lt ∙ ap (λ y. take i xs ++ y ∷ []) (sym is)

pub all_take_more : {X : Type 0} (P : X → Type 0) (xs : List X) (i : ℕ) (x : X) → All P (take i xs) → i < length xs → x ≡ get_or xs i x → P x → All P (take (i + 1) xs)
all_take_more P xs i x all lt is p = subst (All P) (sym (take_one_more xs i x lt is)) (all_push P (take i xs) x all p)

pub at_read : {X : Type 0} (xs : List X) (i : ℕ) (x : X) → i < length xs → x ≡ get_or xs i x → slice_get xs i ≡ Some x
at_read xs i x lt is = slice_get_read xs (length xs) i x refl lt is

-- a fact of each number below one, and of that one
pub below_more : (P : ℕ → Type 0) (n : ℕ) → ((i : ℕ) → i < n → P i) → P n → (i : ℕ) → i < n + 1 → P i
below_more P n before here i less = by_cases (cases_eq i n) (λ other. omega (arith, less, other))
  where
    by_cases : (i ≡ n) ⊎ (i ≡ n → ⊥) → ((i ≡ n → ⊥) → i < n) → P i
    by_cases (inl e) lower = subst P (sym e) here
    by_cases (inr other) lower = before i (lower other)

pub map_at : {X Y : Type 0} (f : X → Y) (xs : List X) (i : ℕ) (d : X) (e : Y) → i < length xs → get_or (map f xs) i e ≡ f (get_or xs i d)
map_at f [] i d e lt = absurd (omega arith)
map_at f (x ∷ xs) zero d e lt = refl
map_at f (x ∷ xs) (suc i) d e lt = map_at f xs i d e (omega arith)

pub all_cons : {X : Type 0} (P : X → Type 0) (x : X) (xs : List X) → P x → All P xs → All P (x ∷ xs)
all_cons P x xs p all zero d lt = p
all_cons P x xs p all (suc k) d lt = all k d (omega arith)
