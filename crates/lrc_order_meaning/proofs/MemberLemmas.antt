-- Members of lists, by what made the lists.
use Rattle.std.proofs.Common.{◌≡◌, ℕ, zero, suc, ◌+◌, ◌<◌, ◌≤◌, Bool, true, false, cond, List, [], ◌∷◌, map, length, get_or, Contains, ◌⊎◌, inl, inr, Some, slice_get, refl, sym, ap, ◌∙◌, subst, arith}
use Rattle.std.specs.Prelude.{filter, flat_map}
use Rattle.std.specs.List.{range_with_len}
use Rattle.std.proofs.lemmas.Bool.{cases_lt}
use Rattle.std.proofs.lemmas.Option.{none-some, same_Some}
use Rattle.std.proofs.lemmas.List.Elements.{Contains-append_left, Contains-append_right, Contains-append_cases}

pub member_first : {X : Type 0} (x : X) (xs : List X) → Contains (x ∷ xs) x
member_first x xs = (0, omega arith, refl)

pub member_later : {X : Type 0} (y : X) (xs : List X) (x : X) → Contains xs x → Contains (y ∷ xs) x
member_later y xs x c = let l = c.1 in (suc c.0, omega arith, c.2)

member_at : {X : Type 0} (y : X) (xs : List X) (x : X) (k : ℕ) → k < length (y ∷ xs) → get_or (y ∷ xs) k x ≡ x → (y ≡ x) ⊎ Contains xs x
member_at y xs x zero less is = inl is
member_at y xs x (suc k) less is = inr (k, omega arith, is)

pub member_cases : {X : Type 0} (y : X) (xs : List X) (x : X) → Contains (y ∷ xs) x → (y ≡ x) ⊎ Contains xs x
member_cases y xs x c = member_at y xs x c.0 c.1 c.2

pub no_member : {X : Type 0} (x : X) → Contains [] x → ⊥
no_member x c = let l = c.1 in absurd (omega arith)

pub member_slice : {X : Type 0} (xs : List X) (i : ℕ) (x : X) → slice_get xs i ≡ Some x → Contains xs x
member_slice [] i x e = absurd (none-some x e)
member_slice (y ∷ ys) zero x e = (0, omega arith, same_Some y x e)
member_slice (y ∷ ys) (suc i) x e = member_later y ys x (member_slice ys i x e)

pub slice_of_member : {X : Type 0} (xs : List X) (x : X) → Contains xs x → (i : ℕ) × (slice_get xs i ≡ Some x)
slice_of_member [] x c = absurd (no_member x c)
slice_of_member (y ∷ ys) x c =
    elim (member_cases y ys x c) [
      | inl e ↦ (0, ap Some e)
      | inr later ↦ let r = slice_of_member ys x later in (suc r.0, r.1)
    ]

pub member_map : {X Y : Type 0} (f : X → Y) (xs : List X) (x : X) → Contains xs x → Contains (map f xs) (f x)
member_map f [] x c = absurd (no_member x c)
member_map f (y ∷ ys) x c =
    elim (member_cases y ys x c) [
      | inl e ↦ (0, omega arith, ap f e)
      | inr later ↦ member_later (f y) (map f ys) (f x) (member_map f ys x later)
    ]

pub member_of_map : {X Y : Type 0} (f : X → Y) (xs : List X) (y : Y) → Contains (map f xs) y → (x : X) × Contains xs x × (f x ≡ y)
member_of_map f [] y c = absurd (no_member y c)
member_of_map f (x ∷ xs) y c =
    elim (member_cases (f x) (map f xs) y c) [
      | inl e ↦ (x, member_first x xs, e)
      | inr later ↦ let r = member_of_map f xs y later in (r.0, member_later x xs r.0 r.1, r.2)
    ]

pub member_flat : {X Y : Type 0} (f : X → List Y) (xs : List X) (x : X) (y : Y) → Contains xs x → Contains (f x) y → Contains (flat_map f xs) y
member_flat f [] x y c d = absurd (no_member x c)
member_flat f (z ∷ zs) x y c d =
    elim (member_cases z zs x c) [
      | inl e ↦ Contains-append_left (f z) (flat_map f zs) y (subst (λ w. Contains (f w) y) (sym e) d)
      | inr later ↦ Contains-append_right (f z) (flat_map f zs) y (member_flat f zs x y later d)
    ]

pub member_of_flat : {X Y : Type 0} (f : X → List Y) (xs : List X) (y : Y) → Contains (flat_map f xs) y → (x : X) × Contains xs x × Contains (f x) y
member_of_flat f [] y c = absurd (no_member y c)
member_of_flat f (x ∷ xs) y c =
    elim (Contains-append_cases (f x) (flat_map f xs) y c) [
      | inl here ↦ (x, member_first x xs, here)
      | inr later ↦ let r = member_of_flat f xs y later in (r.0, member_later x xs r.0 r.1, r.2)
    ]

pub member_filter : {X : Type 0} (p : X → Bool) (xs : List X) (x : X) → Contains xs x → p x ≡ true → Contains (filter p xs) x
member_filter p [] x c h = absurd (no_member x c)
member_filter p (y ∷ ys) x c h =
    elim (member_cases y ys x c) [
      | inl e ↦ subst (λ b. Contains (cond b (y ∷ filter p ys) (filter p ys)) x) (sym (ap p e ∙ h)) (0, omega arith, e)
      | inr later ↦ over (p y) (member_filter p ys x later h)
    ]
  where
    over : (b : Bool) → Contains (filter p ys) x → Contains (cond b (y ∷ filter p ys) (filter p ys)) x
    over true c = member_later y (filter p ys) x c
    over false c = c

filtered_at : {X : Type 0} (p : X → Bool) (y : X) (ys : List X) (x : X) (b : Bool) → p y ≡ b → (Contains (filter p ys) x → Contains ys x × (p x ≡ true))
    → Contains (cond b (y ∷ filter p ys) (filter p ys)) x → Contains (y ∷ ys) x × (p x ≡ true)
filtered_at p y ys x true is rest d =
    elim (member_cases y (filter p ys) x d) [
      | inl e ↦ ((0, omega arith, e), ap p (sym e) ∙ is)
      | inr later ↦ let r = rest later in (member_later y ys x r.0, r.1)
    ]
filtered_at p y ys x false is rest d = let r = rest d in (member_later y ys x r.0, r.1)

pub member_of_filter : {X : Type 0} (p : X → Bool) (xs : List X) (x : X) → Contains (filter p xs) x → Contains xs x × (p x ≡ true)
member_of_filter p [] x c = absurd (no_member x c)
member_of_filter p (y ∷ ys) x c = filtered_at p y ys x (p y) refl (member_of_filter p ys x) c

first_or_later : (a i : ℕ) → a ≤ i → (a ≡ i) ⊎ (a + 1 ≤ i)
first_or_later a i low = elim (cases_lt a i) [ inl less ↦ inr (omega arith) | inr le ↦ inl (omega arith) ]

pub member_range : (a n i : ℕ) → a ≤ i → i < a + n → Contains (range_with_len a n) i
member_range a zero i low high = absurd (omega arith)
member_range a (suc n) i low high =
    elim (first_or_later a i low) [
      | inl e ↦ (0, omega arith, e)
      | inr more ↦ member_later a (range_with_len (a + 1) n) i (member_range (a + 1) n i more (omega arith))
    ]

pub member_of_range : (a n i : ℕ) → Contains (range_with_len a n) i → (a ≤ i) × (i < a + n)
member_of_range a zero i c = absurd (no_member i c)
member_of_range a (suc n) i c =
    elim (member_cases a (range_with_len (a + 1) n) i c) [
      | inl e ↦ (omega arith, omega arith)
      | inr later ↦ let r = member_of_range (a + 1) n i later in let l = r.0 in let h = r.1 in (omega arith, omega arith)
    ]
