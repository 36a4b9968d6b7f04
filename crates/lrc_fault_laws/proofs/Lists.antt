-- Lists: numbers of first items, lists that are named item by item, and what holds of each item with those before it.
use Rattle.std.proofs.Common.{◌≡◌, ℕ, zero, suc, ◌+◌, ◌<◌, ◌≤◌, Bool, true, false, not, ◌&&◌, ◌||◌, ◌⊎◌, inl, inr, cond, List, [], ◌∷◌, ◌++◌, map, flat_map, length, slice_get, position, find, count_by, Option, Some, None, nat_lt, refl, ap, ap₂, ◌∙◌, subst, arith, one-add, append_assoc, le-ltb, lt-ltb}
use Rattle.std.specs.Prelude.{option_map, option_and_then, ⊤}
use Rattle.std.specs.List.{list_any, list_all, position_or_len, range_with_len}
use Rattle.std.proofs.lemmas.Bool.{cases_Bool, cases_lt, and_parts, and_from, or_parts, or_from}
use Rattle.std.proofs.lemmas.List.Sums.{sum_by-cons}
use Rattle.lrc_meaning.specs.Naming.{each_some}
use Rattle.lrc_fault_meaning.specs.Faults.{Fault, each_after, first, where_true}

-- ---- the number of the first item that passes

abbrev pub number : {A : Type 0} → (A → Bool) → List A → Option ℕ
number p [] = None
number p (x ∷ xs) = cond (p x) (Some 0) (option_map suc (number p xs))

abbrev placed : ℕ → ℕ → Option ℕ
placed k n = cond (nat_lt k n) (Some k) None

placed-suc : (k n : ℕ) → placed (suc k) (suc n) ≡ option_map suc (placed k n)
placed-suc k n = by (cases_lt k n)
  where
    by : (k < n) ⊎ (n ≤ k) → placed (suc k) (suc n) ≡ option_map suc (placed k n)
    by (inl lt) = rw (lt-ltb k n lt, lt-ltb (suc k) (suc n) (omega arith)) refl
    by (inr le) = rw (le-ltb k n le, le-ltb (suc k) (suc n) (omega arith)) refl

module _ {A : Type 0} (p : A → Bool) where
  pub position-number : (xs : List A) → position p xs ≡ number p xs
  position-number [] = refl
  position-number (x ∷ xs) = by (p x) (position-number xs)
    where
      by : (b : Bool) → position p xs ≡ number p xs → placed (cond (not b) (1 + position_or_len p xs) 0) (suc (length xs)) ≡ cond b (Some 0) (option_map suc (number p xs))
      by true h = rw (lt-ltb 0 (suc (length xs)) (omega arith)) refl
      by false h = rw one-add (placed-suc (position_or_len p xs) (length xs) ∙ ap (λ o. option_map suc o) h)

pub number_at : {A : Type 0} (p : A → Bool) (xs : List A) (i : ℕ) → number p xs ≡ Some i → (x : A) × (slice_get xs i ≡ Some x) × (p x ≡ true)
number_at p [] i e = absurd (cc)
number_at p (x ∷ xs) i e = by (p x) refl (number p xs) refl (number_at p xs) i e
  where
    by : (b : Bool) → p x ≡ b → (o : Option ℕ) → number p xs ≡ o → ((j : ℕ) → number p xs ≡ Some j → (y : _) × (slice_get xs j ≡ Some y) × (p y ≡ true)) → (i : ℕ) → cond b (Some 0) (option_map suc o) ≡ Some i →
        (y : _) × (slice_get (x ∷ xs) i ≡ Some y) × (p y ≡ true)
    by true is o os rest i e = let zero' : 0 ≡ i = cc in subst (λ j. (y : _) × (slice_get (x ∷ xs) j ≡ Some y) × (p y ≡ true)) zero' (x, refl, is)
    by false is None os rest i e = absurd (cc)
    by false is (Some j) os rest i e = let next : suc j ≡ i = cc in subst (λ m. (y : _) × (slice_get (x ∷ xs) m ≡ Some y) × (p y ≡ true)) next (rest j os)

pub number_any : {A : Type 0} (p : A → Bool) (xs : List A) (i : ℕ) → number p xs ≡ Some i → list_any p xs ≡ true
number_any p [] i e = absurd (cc)
number_any p (x ∷ xs) i e = by (p x) (number p xs) refl (number_any p xs) e
  where
    by : (b : Bool) (o : Option ℕ) → number p xs ≡ o → ((j : ℕ) → number p xs ≡ Some j → list_any p xs ≡ true) → cond b (Some 0) (option_map suc o) ≡ Some i → (b || list_any p xs) ≡ true
    by true o os rest e = refl
    by false None os rest e = absurd (cc)
    by false (Some j) os rest e = rest j os

pub any_number : {A : Type 0} (p : A → Bool) (xs : List A) → list_any p xs ≡ true → (i : ℕ) × (number p xs ≡ Some i)
any_number p [] e = absurd (cc)
any_number p (x ∷ xs) e = by (p x) (any_number p xs) e
  where
    by : (b : Bool) → (list_any p xs ≡ true → (i : ℕ) × (number p xs ≡ Some i)) → (b || list_any p xs) ≡ true → (i : ℕ) × (cond b (Some 0) (option_map suc (number p xs)) ≡ Some i)
    by true rest e = (0, refl)
    by false rest e = let found = rest e in (suc found.0, ap (λ o. option_map suc o) found.1)

-- ---- each of a list

abbrev pub Every : {A : Type 0} → (A → Type 0) → List A → Type 0
Every P [] = ⊤
Every P (x ∷ xs) = P x × Every P xs

module _ {A : Type 0} (P : A → Type 0) where
  pub every_both : (xs ys : List A) → Every P xs → Every P ys → Every P (xs ++ ys)
  every_both [] ys h k = k
  every_both (x ∷ xs) ys h k = (h.0, every_both xs ys h.1 k)

  pub every_parts : (xs ys : List A) → Every P (xs ++ ys) → Every P xs × Every P ys
  every_parts [] ys h = (tt, h)
  every_parts (x ∷ xs) ys h = let rest = every_parts xs ys h.1 in ((h.0, rest.0), rest.1)

  pub every_from : (Q : A → Type 0) → ((x : A) → Q x → P x) → (xs : List A) → Every Q xs → Every P xs
  every_from Q f [] h = tt
  every_from Q f (x ∷ xs) h = (f x h.0, every_from Q f xs h.1)

  pub every_of_all : (xs : List A) → ((x : A) → P x) → Every P xs
  every_of_all [] f = tt
  every_of_all (x ∷ xs) f = (f x, every_of_all xs f)

  pub every_flat : {B : Type 0} (f : B → List A) (xs : List B) → Every (λ x. Every P (f x)) xs → Every P (flat_map f xs)
  every_flat f [] h = tt
  every_flat f (x ∷ xs) h = every_both (f x) (flat_map f xs) h.0 (every_flat f xs h.1)

  pub every_of_flat : {B : Type 0} (f : B → List A) (xs : List B) → Every P (flat_map f xs) → Every (λ x. Every P (f x)) xs
  every_of_flat f [] h = tt
  every_of_flat f (x ∷ xs) h = let parts = every_parts (f x) (flat_map f xs) h in (parts.0, every_of_flat f xs parts.1)

module _ {A : Type 0} (p : A → Bool) where
  pub every_passes : (xs : List A) → list_all p xs ≡ true → Every (λ x. p x ≡ true) xs
  every_passes [] h = tt
  every_passes (x ∷ xs) h = let parts = and_parts (p x) (list_all p xs) h in (parts.0, every_passes xs parts.1)

  pub all_pass : (xs : List A) → Every (λ x. p x ≡ true) xs → list_all p xs ≡ true
  all_pass [] h = refl
  all_pass (x ∷ xs) h = and_from (p x) (list_all p xs) h.0 (all_pass xs h.1)

-- ---- two lists, item by item

abbrev pub Each : {A B : Type 0} → (A → B → Type 0) → List A → List B → Type 0
Each R [] [] = ⊤
Each R [] (y ∷ ys) = ⊥
Each R (x ∷ xs) [] = ⊥
Each R (x ∷ xs) (y ∷ ys) = R x y × Each R xs ys

module _ {A B : Type 0} (R : A → B → Type 0) where
  pub each_both : (xs : List A) (ys : List B) (us : List A) (vs : List B) → Each R xs ys → Each R us vs → Each R (xs ++ us) (ys ++ vs)
  each_both [] [] us vs h k = k
  each_both [] (y ∷ ys) us vs h k = absurd h
  each_both (x ∷ xs) [] us vs h k = absurd h
  each_both (x ∷ xs) (y ∷ ys) us vs h k = (h.0, each_both xs ys us vs h.1 k)

  pub each_length : (xs : List A) (ys : List B) → Each R xs ys → length ys ≡ length xs
  each_length [] [] h = refl
  each_length [] (y ∷ ys) h = absurd h
  each_length (x ∷ xs) [] h = absurd h
  each_length (x ∷ xs) (y ∷ ys) h = ap (λ n. suc n) (each_length xs ys h.1)

  pub each_from : (S : A → B → Type 0) → ((x : A) (y : B) → S x y → R x y) → (xs : List A) (ys : List B) → Each S xs ys → Each R xs ys
  each_from S f [] [] h = tt
  each_from S f [] (y ∷ ys) h = absurd h
  each_from S f (x ∷ xs) [] h = absurd h
  each_from S f (x ∷ xs) (y ∷ ys) h = (f x y h.0, each_from S f xs ys h.1)

  -- a fact of each item on the left gives one of each on the right
  pub each_right : (P : A → Type 0) (Q : B → Type 0) → ((x : A) (y : B) → R x y → P x → Q y) → (xs : List A) (ys : List B) → Each R xs ys → Every P xs → Every Q ys
  each_right P Q f [] [] h k = tt
  each_right P Q f [] (y ∷ ys) h k = absurd h
  each_right P Q f (x ∷ xs) [] h k = absurd h
  each_right P Q f (x ∷ xs) (y ∷ ys) h k = (f x y h.0 k.0, each_right P Q f xs ys h.1 k.1)

  pub each_left : (P : A → Type 0) (Q : B → Type 0) → ((x : A) (y : B) → R x y → Q y → P x) → (xs : List A) (ys : List B) → Each R xs ys → Every Q ys → Every P xs
  each_left P Q f [] [] h k = tt
  each_left P Q f [] (y ∷ ys) h k = absurd h
  each_left P Q f (x ∷ xs) [] h k = absurd h
  each_left P Q f (x ∷ xs) (y ∷ ys) h k = (f x y h.0 k.0, each_left P Q f xs ys h.1 k.1)

  pub each_map : {C : Type 0} (f : A → C) (g : B → C) → ((x : A) (y : B) → R x y → g y ≡ f x) → (xs : List A) (ys : List B) → Each R xs ys → map g ys ≡ map f xs
  each_map f g same [] [] h = refl
  each_map f g same [] (y ∷ ys) h = absurd h
  each_map f g same (x ∷ xs) [] h = absurd h
  each_map f g same (x ∷ xs) (y ∷ ys) h = ap₂ ◌∷◌ (same x y h.0) (each_map f g same xs ys h.1)

  pub each_gives : (P : A → Type 0) → ((x : A) (y : B) → R x y → P x) → (xs : List A) (ys : List B) → Each R xs ys → Every P xs
  each_gives P f xs ys h = each_left P (λ y. ⊤) (λ x y r u. f x y r) xs ys h (every_of_all (λ y. ⊤) ys (λ y. tt))

  pub each_gives_right : (Q : B → Type 0) → ((x : A) (y : B) → R x y → Q y) → (xs : List A) (ys : List B) → Each R xs ys → Every Q ys
  each_gives_right Q f xs ys h = each_right (λ x. ⊤) Q (λ x y r u. f x y r) xs ys h (every_of_all (λ x. ⊤) xs (λ x. tt))

  -- where each item on the left has one on the right, the left list has a list
  pub every_has : (xs : List A) → Every (λ x. (y : B) × R x y) xs → (ys : List B) × Each R xs ys
  every_has [] h = ([], tt)
  every_has (x ∷ xs) h = let rest = every_has xs h.1 in (h.0.0 ∷ rest.0, (h.0.1, rest.1))

module _ {A B C D : Type 0} (R : A → B → Type 0) (S : C → D → Type 0) where
  pub each_mapped : (f : A → C) (g : B → D) → ((x : A) (y : B) → R x y → S (f x) (g y)) → (xs : List A) (ys : List B) → Each R xs ys → Each S (map f xs) (map g ys)
  each_mapped f g h [] [] k = tt
  each_mapped f g h [] (y ∷ ys) k = absurd k
  each_mapped f g h (x ∷ xs) [] k = absurd k
  each_mapped f g h (x ∷ xs) (y ∷ ys) k = (h x y k.0, each_mapped f g h xs ys k.1)

  pub each_flat : (f : A → List C) (g : B → List D) → ((x : A) (y : B) → R x y → Each S (f x) (g y)) → (xs : List A) (ys : List B) → Each R xs ys → Each S (flat_map f xs) (flat_map g ys)
  each_flat f g h [] [] k = tt
  each_flat f g h [] (y ∷ ys) k = absurd k
  each_flat f g h (x ∷ xs) [] k = absurd k
  each_flat f g h (x ∷ xs) (y ∷ ys) k = each_both S (f x) (g y) (flat_map f xs) (flat_map g ys) (h x y k.0) (each_flat f g h xs ys k.1)

-- what is told of each item on the right stands so too
pub each_told : {A B C : Type 0} (R : A → B → Type 0) (S : A → C → Type 0) (f : B → C) → ((x : A) (y : B) → R x y → S x (f y)) → (xs : List A) (ys : List B) → Each R xs ys → Each S xs (map f ys)
each_told R S f h [] [] k = tt
each_told R S f h [] (y ∷ ys) k = absurd k
each_told R S f h (x ∷ xs) [] k = absurd k
each_told R S f h (x ∷ xs) (y ∷ ys) k = (h x y k.0, each_told R S f h xs ys k.1)

pub number_each : {A B : Type 0} (R : A → B → Type 0) (p : A → Bool) (q : B → Bool) → ((x : A) (y : B) → R x y → q y ≡ p x) → (xs : List A) (ys : List B) → Each R xs ys → number q ys ≡ number p xs
number_each R p q h [] [] k = refl
number_each R p q h [] (y ∷ ys) k = absurd k
number_each R p q h (x ∷ xs) [] k = absurd k
number_each R p q h (x ∷ xs) (y ∷ ys) k = rw (h x y k.0, number_each R p q h xs ys k.1) refl

module _ {A B : Type 0} (f : A → Option B) where
  abbrev pub Names : A → B → Type 0
  Names x y = f x ≡ Some y

  pub each_named : (xs : List A) (ys : List B) → each_some (map f xs) ≡ Some ys → Each Names xs ys
  each_named [] [] e = tt
  each_named [] (y ∷ ys) e = absurd (cc)
  each_named (x ∷ xs) ys e = by (f x) (each_some (map f xs)) refl (each_named xs) ys e
    where
      by : (o : Option B) (rest : Option (List B)) → f x ≡ o → ((zs : List B) → rest ≡ Some zs → Each Names xs zs) → (ys : List B) → option_and_then (λ a. option_map (λ as'. a ∷ as') rest) o ≡ Some ys →
          Each Names (x ∷ xs) ys
      by None rest is h ys e = absurd (cc)
      by (Some z) None is h ys e = absurd (cc)
      by (Some z) (Some zs) is h ys e =
          let same : z ∷ zs ≡ ys = cc in
          subst (λ l. Each Names (x ∷ xs) l) same (is, h zs refl)

  pub named_each : (xs : List A) (ys : List B) → Each Names xs ys → each_some (map f xs) ≡ Some ys
  named_each [] [] h = refl
  named_each [] (y ∷ ys) h = absurd h
  named_each (x ∷ xs) [] h = absurd h
  named_each (x ∷ xs) (y ∷ ys) h = rw (h.0, named_each xs ys h.1) refl

-- ---- the first item that passes, in one list and in the other

pub data FoundAt {A B : Type 0} (R : A → B → Type 0) (p : A → Bool) (xs : List A) (ys : List B) : Type 0 where
  absent : find p xs ≡ None → number p xs ≡ None → FoundAt R p xs ys
  there : (i : ℕ) (x : A) (y : B) → find p xs ≡ Some x → number p xs ≡ Some i → slice_get ys i ≡ Some y → R x y → p x ≡ true → FoundAt R p xs ys

module _ {A B : Type 0} (R : A → B → Type 0) (p : A → Bool) where
  found_behind : (x : A) (y : B) (xs : List A) (ys : List B) → p x ≡ false → FoundAt R p xs ys → FoundAt R p (x ∷ xs) (y ∷ ys)
  found_behind x y xs ys fails (absent f n) = absent (rw fails f) (rw (fails, n) refl)
  found_behind x y xs ys fails (there i u v f n at r is) = there (suc i) u v (rw fails f) (rw (fails, n) refl) at r is

  found_first : (x : A) (y : B) (xs : List A) (ys : List B) → p x ≡ true → R x y → FoundAt R p (x ∷ xs) (y ∷ ys)
  found_first x y xs ys is r = there 0 x y (rw is refl) (rw is refl) refl r is

  found_either : (x : A) (y : B) (xs : List A) (ys : List B) → R x y → FoundAt R p xs ys → (p x ≡ true) ⊎ (p x ≡ false) → FoundAt R p (x ∷ xs) (y ∷ ys)
  found_either x y xs ys r h (inl is) = found_first x y xs ys is r
  found_either x y xs ys r h (inr no') = found_behind x y xs ys no' h

  pub found_at : (xs : List A) (ys : List B) → Each R xs ys → FoundAt R p xs ys
  found_at [] [] h = absent refl refl
  found_at [] (y ∷ ys) h = absurd h
  found_at (x ∷ xs) [] h = absurd h
  found_at (x ∷ xs) (y ∷ ys) h = found_either x y xs ys h.0 (found_at xs ys h.1) (cases_Bool (p x))

-- ---- lists that are empty

module _ {A : Type 0} where
  pub empty_parts : (xs ys : List A) → xs ++ ys ≡ [] → (xs ≡ []) × (ys ≡ [])
  empty_parts [] ys e = (refl, e)
  empty_parts (x ∷ xs) ys e = absurd (cc)

  pub empty_both : (xs ys : List A) → xs ≡ [] → ys ≡ [] → xs ++ ys ≡ []
  empty_both xs ys e f = rw (e, f) refl

  pub empty_each : {B : Type 0} (f : B → List A) (xs : List B) → flat_map f xs ≡ [] → Every (λ x. f x ≡ []) xs
  empty_each f [] e = tt
  empty_each f (x ∷ xs) e = let parts = empty_parts (f x) (flat_map f xs) e in (parts.0, empty_each f xs parts.1)

  pub each_empty : {B : Type 0} (f : B → List A) (xs : List B) → Every (λ x. f x ≡ []) xs → flat_map f xs ≡ []
  each_empty f [] h = refl
  each_empty f (x ∷ xs) h = empty_both (f x) (flat_map f xs) h.0 (each_empty f xs h.1)

pub none_where : (b : Bool) (f : Fault) → where_true b f ≡ [] → b ≡ false
none_where true f e = absurd (cc)
none_where false f e = refl

pub where_none : (b : Bool) (f : Fault) → b ≡ false → where_true b f ≡ []
where_none b f e = rw e refl

pub first_none : (fs : List Fault) → first fs ≡ None → fs ≡ []
first_none [] e = refl
first_none (f ∷ fs) e = absurd (cc)

-- ---- each item, with those before it

abbrev pub After : {A : Type 0} → (List A → A → Type 0) → List A → List A → Type 0
After Q before [] = ⊤
After Q before (x ∷ xs) = Q before x × After Q (before ++ x ∷ []) xs

module _ {A : Type 0} (f : List A → A → List Fault) where
  pub none_after : (before xs : List A) → each_after f before xs ≡ [] → After (λ b x. f b x ≡ []) before xs
  none_after before [] e = tt
  none_after before (x ∷ xs) e =
      let parts = empty_parts (f before x) (each_after f (before ++ x ∷ []) xs) e in
      (parts.0, none_after (before ++ x ∷ []) xs parts.1)

  pub after_none : (before xs : List A) → After (λ b x. f b x ≡ []) before xs → each_after f before xs ≡ []
  after_none before [] h = refl
  after_none before (x ∷ xs) h =
      empty_both (f before x) (each_after f (before ++ x ∷ []) xs) h.0 (after_none (before ++ x ∷ []) xs h.1)

module _ {A : Type 0} (whole : List A) (P Q : List A → A → Type 0) (f : (b : List A) (x : A) (rest : List A) → b ++ x ∷ rest ≡ whole → P b x → Q b x) where
  pub after_from : (before xs : List A) → before ++ xs ≡ whole → After P before xs → After Q before xs
  after_from before [] e h = tt
  after_from before (x ∷ xs) e h =
      (f before x xs e h.0, after_from (before ++ x ∷ []) xs (append_assoc before (x ∷ []) xs ∙ e) h.1)

module _ {A : Type 0} (P Q : List A → A → Type 0) where
  pub after_both : (before xs : List A) → After P before xs → After Q before xs → After (λ b x. P b x × Q b x) before xs
  after_both before [] h k = tt
  after_both before (x ∷ xs) h k = ((h.0, k.0), after_both (before ++ x ∷ []) xs h.1 k.1)

module _ {A : Type 0} (P : A → Type 0) where
  pub every_of_after : (before xs : List A) → After (λ b x. P x) before xs → Every P xs
  every_of_after before [] h = tt
  every_of_after before (x ∷ xs) h = (h.0, every_of_after (before ++ x ∷ []) xs h.1)

  pub after_of_every : (before xs : List A) → Every P xs → After (λ b x. P x) before xs
  after_of_every before [] h = tt
  after_of_every before (x ∷ xs) h = (h.0, after_of_every (before ++ x ∷ []) xs h.1)

-- ---- how many pass

abbrev pub tally : {A : Type 0} → (A → Bool) → List A → ℕ
tally p [] = 0
tally p (x ∷ xs) = cond (p x) 1 0 + tally p xs

module _ {A : Type 0} (p : A → Bool) where
  pub count-tally : (xs : List A) → count_by p xs ≡ tally p xs
  count-tally [] = refl
  count-tally (x ∷ xs) = sum_by-cons (λ y. cond (p y) 1 0) x xs ∙ ap (λ n. cond (p x) 1 0 + n) (count-tally xs)

  pub tally-append : (xs ys : List A) → tally p (xs ++ ys) ≡ tally p xs + tally p ys
  tally-append [] ys = omega arith
  tally-append (x ∷ xs) ys = let rest = tally-append xs ys in omega arith

  pub tally_none : (xs : List A) → list_any p xs ≡ false → tally p xs ≡ 0
  tally_none [] e = refl
  tally_none (x ∷ xs) e = by (p x) (tally_none xs) e
    where
      by : (b : Bool) → (list_any p xs ≡ false → tally p xs ≡ 0) → (b || list_any p xs) ≡ false → cond b 1 0 + tally p xs ≡ 0
      by true rest e = absurd (cc)
      by false rest e = let none = rest e in omega arith

  pub none_tally : (xs : List A) → tally p xs ≡ 0 → list_any p xs ≡ false
  none_tally [] e = refl
  none_tally (x ∷ xs) e = by (p x) (none_tally xs) e
    where
      by : (b : Bool) → (tally p xs ≡ 0 → list_any p xs ≡ false) → cond b 1 0 + tally p xs ≡ 0 → (b || list_any p xs) ≡ false
      by true rest e = absurd (omega arith)
      by false rest e = rest (omega arith)

  pub tally_some : (xs : List A) → list_any p xs ≡ true → 1 ≤ tally p xs
  tally_some [] e = absurd (cc)
  tally_some (x ∷ xs) e = by (p x) (tally_some xs) e
    where
      by : (b : Bool) → (list_any p xs ≡ true → 1 ≤ tally p xs) → (b || list_any p xs) ≡ true → 1 ≤ cond b 1 0 + tally p xs
      by true rest e = omega arith
      by false rest e = let some = rest e in omega arith

  pub some_tally : (xs : List A) → 1 ≤ tally p xs → list_any p xs ≡ true
  some_tally [] e = absurd (omega arith)
  some_tally (x ∷ xs) e = by (p x) (some_tally xs) e
    where
      by : (b : Bool) → (1 ≤ tally p xs → list_any p xs ≡ true) → 1 ≤ cond b 1 0 + tally p xs → (b || list_any p xs) ≡ true
      by true rest e = refl
      by false rest e = rest (omega arith)

  pub every_found : (P : A → Type 0) (xs : List A) (x : A) → Every P xs → find p xs ≡ Some x → P x × (p x ≡ true)
  every_found P [] x h e = absurd (cc)
  every_found P (y ∷ xs) x h e = by (p y) refl (every_found P xs x h.1) e
    where
      by : (b : Bool) → p y ≡ b → (find p xs ≡ Some x → P x × (p x ≡ true)) → cond b (Some y) (find p xs) ≡ Some x → P x × (p x ≡ true)
      by true is rest e = let same : y ≡ x = cc in subst (λ z. P z × (p z ≡ true)) same (h.0, is)
      by false is rest e = rest e

pub each_tally : {A B : Type 0} (R : A → B → Type 0) (p : A → Bool) (q : B → Bool) → ((x : A) (y : B) → R x y → q y ≡ p x) → (xs : List A) (ys : List B) → Each R xs ys → tally q ys ≡ tally p xs
each_tally R p q h [] [] k = refl
each_tally R p q h [] (y ∷ ys) k = absurd k
each_tally R p q h (x ∷ xs) [] k = absurd k
each_tally R p q h (x ∷ xs) (y ∷ ys) k = ap₂ (λ b n. cond b 1 0 + n) (h x y k.0) (each_tally R p q h xs ys k.1)

pub each_at : {A B : Type 0} (R : A → B → Type 0) (xs : List A) (ys : List B) (j : ℕ) (x : A) → Each R xs ys → slice_get xs j ≡ Some x → (y : B) × (slice_get ys j ≡ Some y) × R x y
each_at R [] [] j x h e = absurd (cc)
each_at R [] (y ∷ ys) j x h e = absurd h
each_at R (z ∷ xs) [] j x h e = absurd h
each_at R (z ∷ xs) (y ∷ ys) zero x h e = let same : z ≡ x = cc in (y, refl, subst (λ w. R w y) same h.0)
each_at R (z ∷ xs) (y ∷ ys) (suc j) x h e = each_at R xs ys j x h.1 e

-- a test of each number below the length is a test of each item
pub range_all : {A : Type 0} (t : ℕ → Bool) (q : A → Bool) (k : ℕ) (xs : List A) → ((j : ℕ) (x : A) → slice_get xs j ≡ Some x → t (k + j) ≡ q x) → list_all t (range_with_len k (length xs)) ≡ list_all q xs
range_all t q k [] h = refl
range_all t q k (x ∷ xs) h =
    let here : k + 0 ≡ k = omega arith in
    ap₂ ◌&&◌ (subst (λ m. t m ≡ q x) here (h 0 x refl)) (range_all t q (k + 1) xs (λ j y e. let next : k + suc j ≡ k + 1 + j = omega arith in subst (λ m. t m ≡ q y) next (h (suc j) y e)))

module _ {A : Type 0} where
  pub every_with : (P Q S : A → Type 0) → ((x : A) → P x → Q x → S x) → (xs : List A) → Every P xs → Every Q xs → Every S xs
  every_with P Q S f [] h k = tt
  every_with P Q S f (x ∷ xs) h k = (f x h.0 k.0, every_with P Q S f xs h.1 k.1)

  pub every_mapped : {B : Type 0} (P : B → Type 0) (f : A → B) (xs : List A) → Every (λ x. P (f x)) xs → Every P (map f xs)
  every_mapped P f [] h = tt
  every_mapped P f (x ∷ xs) h = (h.0, every_mapped P f xs h.1)

  pub every_of_mapped : {B : Type 0} (P : B → Type 0) (f : A → B) (xs : List A) → Every P (map f xs) → Every (λ x. P (f x)) xs
  every_of_mapped P f [] h = tt
  every_of_mapped P f (x ∷ xs) h = (h.0, every_of_mapped P f xs h.1)

  pub any_mapped : {B : Type 0} (q : B → Bool) (f : A → B) (xs : List A) → list_any q (map f xs) ≡ list_any (λ x. q (f x)) xs
  any_mapped q f [] = refl
  any_mapped q f (x ∷ xs) = ap (λ b. q (f x) || b) (any_mapped q f xs)

  pub every_fails : (q : A → Bool) (xs : List A) → list_any q xs ≡ false → Every (λ x. q x ≡ false) xs
  every_fails q [] e = tt
  every_fails q (x ∷ xs) e = let parts = or_parts (q x) (list_any q xs) e in (parts.0, every_fails q xs parts.1)

  pub none_passes : (q : A → Bool) (xs : List A) → Every (λ x. q x ≡ false) xs → list_any q xs ≡ false
  none_passes q [] h = refl
  none_passes q (x ∷ xs) h = or_from (q x) (list_any q xs) h.0 (none_passes q xs h.1)

  -- where a fact holds of each item behind others, by the whole list
  pub after_of_whole : (Q : List A → A → Type 0) (before xs whole : List A) → before ++ xs ≡ whole → ((b : List A) (x : A) (rest : List A) → b ++ x ∷ rest ≡ whole → Q b x) → After Q before xs
  after_of_whole Q before [] whole e f = tt
  after_of_whole Q before (x ∷ xs) whole e f =
      (f before x xs e, after_of_whole Q (before ++ x ∷ []) xs whole (append_assoc before (x ∷ []) xs ∙ e) f)

  pub every_middle : (P : A → Type 0) (before : List A) (x : A) (rest : List A) → Every P (before ++ x ∷ rest) → P x
  every_middle P before x rest h = (every_parts P before (x ∷ rest) h).1.0

pub each_with : {A B : Type 0} (R : A → B → Type 0) (P : A → Type 0) (S : A → B → Type 0) → ((x : A) (y : B) → R x y → P x → S x y) → (xs : List A) (ys : List B) → Each R xs ys → Every P xs → Each S xs ys
each_with R P S f [] [] h k = tt
each_with R P S f [] (y ∷ ys) h k = absurd h
each_with R P S f (x ∷ xs) [] h k = absurd h
each_with R P S f (x ∷ xs) (y ∷ ys) h k = (f x y h.0 k.0, each_with R P S f xs ys h.1 k.1)

-- the facts of both items beside one another
pub each_with_right : {A B : Type 0} (R : A → B → Type 0) (P : B → Type 0) (S : A → B → Type 0) → ((x : A) (y : B) → R x y → P y → S x y) → (xs : List A) (ys : List B) → Each R xs ys → Every P ys → Each S xs ys
each_with_right R P S f [] [] h k = tt
each_with_right R P S f [] (y ∷ ys) h k = absurd h
each_with_right R P S f (x ∷ xs) [] h k = absurd h
each_with_right R P S f (x ∷ xs) (y ∷ ys) h k = (f x y h.0 k.0, each_with_right R P S f xs ys h.1 k.1)
