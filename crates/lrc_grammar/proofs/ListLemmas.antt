-- The items of a list that are left, and a test that fails.
use Rattle.std.proofs.Common.{◌≡◌, ℕ, suc, ◌+◌, ◌<◌, Bool, true, false, ◌&&◌, List, ◌∷◌, length, drop, get_or, refl, sym, ap, ◌∙◌, add-one, drop-cons}

-- the first of the items that are left
pub next_left : {A : Type 0} (xs : List A) (i : ℕ) (x : A) → i < length xs → x ≡ get_or xs i x → drop i xs ≡ x ∷ drop (i + 1) xs
next_left xs i x h e = rw add-one (drop-cons xs i x h ∙ ap (λ y. y ∷ drop (suc i) xs) (sym e))

pub and_false : (b : Bool) → (b && false) ≡ false
and_false true = refl
and_false false = refl
