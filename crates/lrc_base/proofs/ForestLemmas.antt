-- Trees that items make: one item more, and the item at a place.
use Rattle.std.proofs.Common.{◌≡◌, ℕ, zero, suc, ◌+◌, ◌-◌, ◌<◌, ◌≤◌, List, [], ◌∷◌, ◌++◌, length, map, take, drop, get_or, refl, sym, ap, ◌∙◌, subst, arith, add-one}
use Rattle.std.proofs.lemmas.Grind.{common_steps}
use Rattle.std.proofs.lemmas.List.{length-map, map-append}
use Rattle.lrc_base.specs.Forest.{joined, grow, Fit}

module _ {A I : Type 0} (wanted : I → ℕ) (grown : List A → I → List A) where
  pub grow_snoc : (ts : List A) (is : List I) (i : I) → grow wanted grown ts (is ++ i ∷ []) ≡ grown (grow wanted grown ts is) i
  grow_snoc ts [] i = refl
  grow_snoc ts (x ∷ is) i = grow_snoc (grown ts x) is i

  pub fit_snoc : (ts : List A) (is : List I) (i : I) → Fit wanted grown ts is → wanted i ≤ length (grow wanted grown ts is) →
      Fit wanted grown ts (is ++ i ∷ [])
  fit_snoc ts [] i f h = (h, tt)
  fit_snoc ts (x ∷ is) i f h = (f.0, fit_snoc (grown ts x) is i f.1 h)

  -- the item at a place finds as many trees as it takes
  pub fit_at : (ts : List A) (is : List I) (k : ℕ) (i : I) → Fit wanted grown ts is → k < length is → i ≡ get_or is k i →
      wanted i ≤ length (grow wanted grown ts (take k is))
  fit_at ts [] k i f h e = absurd (omega arith)
  fit_at ts (x ∷ is) zero i f h e = subst (λ y. wanted y ≤ length ts) (sym e) f.0
  fit_at ts (x ∷ is) (suc k) i f h e = fit_at (grown ts x) is k i f.1 (omega arith) e

  -- the trees behind the item at a place
  grow_suc : (ts : List A) (is : List I) (k : ℕ) (i : I) → k < length is → i ≡ get_or is k i →
      grow wanted grown ts (take (suc k) is) ≡ grown (grow wanted grown ts (take k is)) i
  grow_suc ts [] k i h e = absurd (omega arith)
  grow_suc ts (x ∷ is) zero i h e = ap (grown ts) (sym e)
  grow_suc ts (x ∷ is) (suc k) i h e = grow_suc (grown ts x) is k i (omega arith) e

  pub grow_next : (ts : List A) (is : List I) (k : ℕ) (i : I) → k < length is → i ≡ get_or is k i →
      grow wanted grown ts (take (k + 1) is) ≡ grown (grow wanted grown ts (take k is)) i
  grow_next ts is k i h e = rw add-one (grow_suc ts is k i h e)

  pub grow_all : (ts : List A) (is : List I) (k : ℕ) → length is ≤ k → grow wanted grown ts (take k is) ≡ grow wanted grown ts is
  grow_all ts [] zero h = refl
  grow_all ts [] (suc k) h = refl
  grow_all ts (x ∷ is) zero h = absurd (omega arith)
  grow_all ts (x ∷ is) (suc k) h = grow_all (grown ts x) is k (omega arith)

map_take : {A B : Type 0} (f : A → B) (n : ℕ) (xs : List A) → map f (take n xs) ≡ take n (map f xs)
map_take f zero xs = refl
map_take f (suc n) [] = refl
map_take f (suc n) (x ∷ xs) = ap (λ ys. f x ∷ ys) (map_take f n xs)

map_drop : {A B : Type 0} (f : A → B) (n : ℕ) (xs : List A) → map f (drop n xs) ≡ drop n (map f xs)
map_drop f zero xs = refl
map_drop f (suc n) [] = refl
map_drop f (suc n) (x ∷ xs) = map_drop f n xs

-- what trees are joined to, of each tree something
pub map_joined : {A B : Type 0} (f : A → B) (node : List A → A) (over : List B → B) (n : ℕ) (ts : List A) → ((xs : List A) → f (node xs) ≡ over (map f xs)) →
    map f (joined node n ts) ≡ joined over n (map f ts)
map_joined f node over n ts same =
    map-append f (take (length ts - n) ts) (node (drop (length ts - n) ts) ∷ [])
    ∙ ap (λ y. map f (take (length ts - n) ts) ++ y ∷ []) (same (drop (length ts - n) ts))
    ∙ ap (λ xs. xs ++ over (map f (drop (length ts - n) ts)) ∷ []) (map_take f (length ts - n) ts)
    ∙ ap (λ xs. take (length ts - n) (map f ts) ++ over xs ∷ []) (map_drop f (length ts - n) ts)
    ∙ ap (λ m. take (m - n) (map f ts) ++ over (drop (m - n) (map f ts)) ∷ []) (sym (length-map ts f))

pub length_joined : {A : Type 0} (node : List A → A) (n : ℕ) (ts : List A) → n ≤ length ts → length (joined node n ts) ≡ length ts - n + 1
length_joined node n ts h = grind (arith, common_steps)

-- nothing joined is one more
pub joined_none : {A : Type 0} (node : List A → A) (ts : List A) → joined node 0 ts ≡ ts ++ node [] ∷ []
joined_none node ts = ap (λ m. take m ts ++ node (drop m ts) ∷ []) whole ∙ ap (λ xs. xs ++ node (drop (length ts) ts) ∷ []) (all ts) ∙ ap (λ xs. ts ++ node xs ∷ []) (none ts)
  where
    whole : length ts - 0 ≡ length ts
    whole = omega arith

    all : {B : Type 0} (xs : List B) → take (length xs) xs ≡ xs
    all [] = refl
    all (x ∷ xs) = ap (λ ys. x ∷ ys) (all xs)

    none : {B : Type 0} (xs : List B) → drop (length xs) xs ≡ []
    none [] = refl
    none (x ∷ xs) = none xs
