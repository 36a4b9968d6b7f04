-- Languages with values: which tokens stand for which value.
use Rattle.std.specs.Prelude.{◌≡◌, ℕ, zero, suc, ◌≤◌, Bool, true, Option, Some, None, List, [], ◌∷◌, ◌++◌, length, ◌⊎◌}

-- `L u x`: the tokens `u` stand for the value `x`
abbrev pub Lang : Type 0 → Type 0 → Type 1
Lang T A = List T → A → Type 0

-- what `f` makes of a value and the items to its right, from left to right
abbrev pub fold_left : {A X : Type 0} → (A → X → A) → A → List X → A
fold_left f a [] = a
fold_left f a (x ∷ xs) = fold_left f (f a x) xs

module _ {T : Type 0} where
  -- no tokens stand for anything
  abbrev pub Nothing : {A : Type 0} → Lang T A
  Nothing u x = ⊥

  -- no token at all stands for `a`
  abbrev pub Empty : {A : Type 0} → A → Lang T A
  Empty a u x = (u ≡ []) × (x ≡ a)

  -- one token, which has a value by `value`
  abbrev pub One : {A : Type 0} → (T → Option A) → Lang T A
  One value u x = (t : T) × (u ≡ t ∷ []) × (value t ≡ Some x)

  -- the tokens of `L` stand for what `f` makes of their value
  abbrev pub Of : {A B : Type 0} → (A → B) → Lang T A → Lang T B
  Of {A} {B} f L u y = (x : A) × L u x × (y ≡ f x)

  -- one, and then the other
  abbrev pub Then : {A B : Type 0} → Lang T A → Lang T B → Lang T (A × B)
  Then L M u x = (p q : List T) × (u ≡ p ++ q) × L p x.0 × M q x.1

  -- one, and then another that its value chooses and whose value stands for the whole
  abbrev pub Given : {A B : Type 0} → Lang T A → (A → Lang T B) → Lang T B
  Given {A} {B} L M u y = (p q : List T) × (x : A) × (u ≡ p ++ q) × L p x × M x q y

  -- the one or the other
  abbrev pub Either : {A : Type 0} → Lang T A → Lang T A → Lang T A
  Either L M u x = L u x ⊎ M u x

  -- as `L`, or none
  abbrev pub Optional : {A : Type 0} → Lang T A → Lang T (Option A)
  Optional L = Either (Of Some L) (Empty None)

  -- as `L`, where there is room for it
  abbrev pub Within : {A : Type 0} → Bool → Lang T A → Lang T A
  Within room L u x = (room ≡ true) × L u x

  -- each value's tokens, one after another
  abbrev pub Many : {A : Type 0} → Lang T A → Lang T (List A)
  Many L u [] = u ≡ []
  Many L u (x ∷ xs) = (p q : List T) × (u ≡ p ++ q) × L p x × Many L q xs

  -- as `L`, with at most `n` items
  abbrev pub Most : {A : Type 0} → ℕ → Lang T (List A) → Lang T (List A)
  Most n L u xs = L u xs × (length xs ≤ n)

  -- a first value, and then any number of items that `f` joins to it from the left
  abbrev pub Chain : {A X : Type 0} → (A → X → A) → Lang T A → Lang T X → Lang T A
  Chain {A} {X} f L M u y =
      (p q : List T) × (x : A) × (xs : List X) × (u ≡ p ++ q) × L p x × Many M q xs × (y ≡ fold_left f x xs)

  -- what `f` makes of the items of a list that is not empty, from left to right
  abbrev pub Folded : {A : Type 0} → (A → A → A) → Lang T (List A) → Lang T A
  Folded {A} f L u y = (x : A) × (xs : List A) × L u (x ∷ xs) × (y ≡ fold_left f x xs)

  -- `n` turns, each from the state that the one before it left
  abbrev pub Turns : {S : Type 0} → (S → Lang T S) → ℕ → S → Lang T S
  Turns step zero s u z = (u ≡ []) × (z ≡ s)
  Turns {S} step (suc n) s u z =
      (p q : List T) × (r : S) × (u ≡ p ++ q) × step s p r × Turns step n r q z

  -- any number of turns
  abbrev pub Loop : {S : Type 0} → (S → Lang T S) → S → Lang T S
  Loop step s u z = (n : ℕ) × Turns step n s u z

  -- at most `depth` bodies more within one another
  abbrev pub Nested : {A : Type 0} → (Lang T A → Lang T A) → ℕ → Lang T A
  Nested body zero = body Nothing
  Nested body (suc depth) = body (Nested body depth)

-- Tokens without a value are told by their kind, a number.
module _ {T : Type 0} (kind : T → ℕ) where
  -- one token of the kind
  abbrev pub Fixed : ℕ → Lang T (Unit {0})
  Fixed k u x = (t : T) × (u ≡ t ∷ []) × (kind t ≡ k)

  -- a token of the kind, and then `L`
  abbrev pub Skip : {A : Type 0} → ℕ → Lang T A → Lang T A
  Skip k L u x = (t : T) × (q : List T) × (u ≡ t ∷ q) × (kind t ≡ k) × L q x

  -- `L`, and then a token of the kind
  abbrev pub Ends : {A : Type 0} → Lang T A → ℕ → Lang T A
  Ends L k u x = (p : List T) × (t : T) × (u ≡ p ++ t ∷ []) × L p x × (kind t ≡ k)

  -- one item or more, with a token of the kind between each two
  abbrev pub Separated : {A : Type 0} → ℕ → Lang T A → Lang T (List A)
  Separated k L u [] = ⊥
  Separated k L u (x ∷ xs) = (p q : List T) × (u ≡ p ++ q) × L p x × Many (Skip k L) q xs
