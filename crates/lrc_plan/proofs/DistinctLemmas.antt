-- Lists without repeats.
use Rattle.std.proofs.Common.{◌≡◌, ℕ, zero, suc, ◌+◌, ◌<◌, ◌≤◌, List, [], ◌∷◌, ◌++◌, Contains, inl, inr, sym, subst, arith}
use Rattle.std.specs.Prelude.{flat_map, AllPairs, ⊤}
use Rattle.std.specs.List.{range_with_len}
use Rattle.std.proofs.lemmas.Bool.{cases_order}
use Rattle.std.proofs.lemmas.List.Elements.{Contains-append_left, Contains-append_right}
use Rattle.lrc_order_meaning.proofs.MemberLemmas.{member_cases, no_member, member_flat, member_range}

-- no element stands twice
abbrev pub Distinct : {X : Type 0} → List X → Type 0
Distinct [] = ⊤
Distinct (x ∷ xs) = (¬ Contains xs x) × Distinct xs

pub distinct_pairs : {X : Type 0} (xs : List X) → AllPairs (λ x y. ¬ (x ≡ y)) xs → Distinct xs
distinct_pairs [] h = tt
distinct_pairs (x ∷ xs) h = (
  λ c. let l = c.1 in h 0 (suc c.0) x (omega arith) (omega arith) (sym c.2),
  distinct_pairs xs (λ i j d less within. h (suc i) (suc j) d (omega arith) (omega arith)),
)

pub distinct_right : {X : Type 0} (xs ys : List X) → Distinct (xs ++ ys) → Distinct ys
distinct_right [] ys h = h
distinct_right (x ∷ xs) ys h = distinct_right xs ys h.1

pub distinct_left : {X : Type 0} (xs ys : List X) → Distinct (xs ++ ys) → Distinct xs
distinct_left [] ys h = tt
distinct_left (x ∷ xs) ys h = (λ c. h.0 (Contains-append_left xs ys x c), distinct_left xs ys h.1)

pub apart : {X : Type 0} (xs ys : List X) → Distinct (xs ++ ys) → (x : X) → Contains xs x → ¬ Contains ys x
apart [] ys h x c d = no_member x c
apart (y ∷ xs) ys h x c d =
    elim (member_cases y xs x c) [
      | inl e ↦ h.0 (Contains-append_right xs ys y (subst (Contains ys) (sym e) d))
      | inr later ↦ apart xs ys h.1 x later d
    ]

-- lists of different numbers have nothing in common
pub apart_by_number : {X : Type 0} (f : ℕ → List X) (a n i j : ℕ) → Distinct (flat_map f (range_with_len a n)) → a ≤ i → i < j → j < a + n → (x : X) → Contains (f i) x → ¬ Contains (f j) x
apart_by_number f a zero i j h low less high x c d = absurd (omega arith)
apart_by_number f a (suc n) i j h low less high x c d =
    elim (cases_order a i) [
      | inl e ↦
          apart (f a) (flat_map f (range_with_len (a + 1) n)) h x (subst (λ k. Contains (f k) x) (sym e) c)
          (member_flat f (range_with_len (a + 1) n) j x (member_range (a + 1) n j (omega (arith, e)) (omega arith)) d)
      | inr other ↦
          elim other [
            | inl below ↦
                apart_by_number f (a + 1) n i j (distinct_right (f a) (flat_map f (range_with_len (a + 1) n)) h) (omega arith) less (omega arith) x c d
            | inr above ↦ absurd (omega arith)
          ]
    ]

pub distinct_at : {X : Type 0} (f : ℕ → List X) (a n i : ℕ) → Distinct (flat_map f (range_with_len a n)) → a ≤ i → i < a + n → Distinct (f i)
distinct_at f a zero i h low high = absurd (omega arith)
distinct_at f a (suc n) i h low high =
    elim (cases_order a i) [
      | inl e ↦ subst (λ k. Distinct (f k)) e (distinct_left (f a) (flat_map f (range_with_len (a + 1) n)) h)
      | inr other ↦
          elim other [
            | inl below ↦ distinct_at f (a + 1) n i (distinct_right (f a) (flat_map f (range_with_len (a + 1) n)) h) (omega arith) (omega arith)
            | inr above ↦ absurd (omega arith)
          ]
    ]
