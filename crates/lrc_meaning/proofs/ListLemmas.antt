-- Lists by place: joined lists, tests of each element, and what holds at each place.
use Rattle.std.proofs.Common.{◌≡◌, ℕ, zero, suc, ◌+◌, ◌<◌, Bool, true, List, [], ◌∷◌, ◌++◌, length, Some, slice_get, refl, sym, ap, ◌∙◌, arith}
use Rattle.std.specs.List.{list_all, range_with_len, AllByRecursion}
use Rattle.std.proofs.lemmas.Bool.{and_parts}
use Rattle.std.proofs.lemmas.Option.{none-some}

pub slice_left : {X : Type 0} (xs ys : List X) (i : ℕ) → i < length xs → slice_get (xs ++ ys) i ≡ slice_get xs i
slice_left [] ys i h = absurd (omega arith)
slice_left (x ∷ xs) ys zero h = refl
slice_left (x ∷ xs) ys (suc i) h = slice_left xs ys i (omega arith)

pub slice_right : {X : Type 0} (xs ys : List X) (i j : ℕ) → i ≡ length xs + j → slice_get (xs ++ ys) i ≡ slice_get ys j
slice_right [] ys i j e = let k : i ≡ j = omega arith in ap (slice_get ys) k
slice_right (x ∷ xs) ys zero j e = absurd (omega arith)
slice_right (x ∷ xs) ys (suc i) j e = slice_right xs ys i j (omega arith)

pub list_all-at : {X : Type 0} (p : X → Bool) (xs : List X) (i : ℕ) (x : X) → list_all p xs ≡ true → slice_get xs i ≡ Some x → p x ≡ true
list_all-at p [] i x h e = absurd (none-some x e)
list_all-at p (y ∷ ys) zero x h e = let s : y ≡ x = cc in ap p (sym s) ∙ (and_parts (p y) (list_all p ys) h).0
list_all-at p (y ∷ ys) (suc i) x h e = list_all-at p ys i x (and_parts (p y) (list_all p ys) h).1 e

pub list_all-range : (p : ℕ → Bool) (a n i j : ℕ) → list_all p (range_with_len a n) ≡ true → i < n → j ≡ a + i → p j ≡ true
list_all-range p a zero i j h l e = absurd (omega arith)
list_all-range p a (suc n) zero j h l e =
    let s : j ≡ a = omega arith in ap p s ∙ (and_parts (p a) (list_all p (range_with_len (a + 1) n)) h).0
list_all-range p a (suc n) (suc i) j h l e =
    list_all-range p (a + 1) n i j (and_parts (p a) (list_all p (range_with_len (a + 1) n)) h).1 (omega arith) (omega arith)

pub all_from_places : {X : Type 0} (P : X → Type 0) (xs : List X) → ((i : ℕ) (x : X) → slice_get xs i ≡ Some x → P x) → AllByRecursion P xs
all_from_places P [] h = tt
all_from_places P (x ∷ xs) h = (h 0 x refl, all_from_places P xs (λ i. h (suc i)))
