-- A property of all items, item by item.
use Rattle.std.proofs.Common.{◌≡◌, ℕ, ◌+◌, ◌<◌, ◌≤◌, List, [], ◌∷◌, ◌++◌, All, take, length, get_or, sym, ap, ◌∙◌, subst, add-one, take-suc, take_all}
use Rattle.std.proofs.lemmas.List.Elements.{All-nil, All-cons, All-append}

pub all_next : {X : Type 0} (P : X → Type 0) (xs : List X) (n : ℕ) (x : X) → n < length xs → x ≡ get_or xs n x → P x → All P (take n xs) → All P (take (n + 1) xs)
all_next P xs n x h e has all =
    let grown : take (n + 1) xs ≡ take n xs ++ x ∷ [] = rw add-one (take-suc xs n x h ∙ ap (λ z. take n xs ++ z ∷ []) (sym e)) in
    subst (λ list. All P list) (sym grown) (All-append P (take n xs) (x ∷ []) all (All-cons P x [] has (All-nil P)))

pub all_done : {X : Type 0} (P : X → Type 0) (xs : List X) (n : ℕ) → length xs ≤ n → All P (take n xs) → All P xs
all_done P xs n le all = subst (λ list. All P list) (take_all n xs le) all
