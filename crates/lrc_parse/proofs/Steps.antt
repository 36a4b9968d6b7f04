-- The steps of each reading: what its parts read, and so what it reads.
use Rattle.std.proofs.Common.{◌≡◌, ℕ, suc, Bool, true, false, cond, Option, Some, None, List, [], ◌∷◌, refl, ap, ◌∙◌, zero}
use Rattle.std.proofs.lemmas.Bool.{eq-eqb, ne_eqb}
use Rattle.lrc_parse.specs.Kinds.{starts}
use Rattle.lrc_parse.specs.Reading.{Cause, expected, nested, Reading, took, stops, on_took, token_value, read_empty, read_one, read_of, read_then, read_given, past_token, read_fixed, read_skip, read_ends, read_either, read_optional, read_nothing, read_within, read_nested}

module _ {T : Type 0} where
  pub read_empty_took : {A : Type 0} (a : A) (u : List T) → read_empty a u ≡ took a u
  unfolding read_empty
  read_empty_took a u = refl

  pub read_one_took : {A : Type 0} (value : T → Option A) (t : T) (r : List T) (x : A) →
      value t ≡ Some x → read_one value (t ∷ r) ≡ took x r
  unfolding read_one
  read_one_took value t r x e = ap (λ o. token_value o t r) e

  pub read_one_stops : {A : Type 0} (value : T → Option A) (t : T) (r : List T) →
      value t ≡ None → read_one value (t ∷ r) ≡ stops expected (t ∷ r)
  unfolding read_one
  read_one_stops value t r e = ap (λ o. token_value o t r) e

  pub read_one_end : {A : Type 0} (value : T → Option A) → read_one value [] ≡ stops expected []
  unfolding read_one
  read_one_end value = refl

  pub read_of_took : {A B : Type 0} (f : A → B) (a : List T → Reading T A) (u r : List T) (x : A) →
      a u ≡ took x r → read_of f a u ≡ took (f x) r
  unfolding read_of
  read_of_took f a u r x e = ap (λ o. on_took o (λ y s. took (f y) s)) e

  pub read_of_stops : {A B : Type 0} (f : A → B) (a : List T → Reading T A) (u r : List T) (c : Cause) →
      a u ≡ stops c r → read_of f a u ≡ stops c r
  unfolding read_of
  read_of_stops f a u r c e = ap (λ o. on_took o (λ y s. took (f y) s)) e

  pub read_given_took : {A B : Type 0} (a : List T → Reading T A) (b : A → List T → Reading T B) (u r : List T) (x : A) →
      a u ≡ took x r → read_given a b u ≡ b x r
  unfolding read_given
  read_given_took a b u r x e = ap (λ o. on_took o b) e

  pub read_given_stops : {A B : Type 0} (a : List T → Reading T A) (b : A → List T → Reading T B) (u r : List T) (c : Cause) →
      a u ≡ stops c r → read_given a b u ≡ stops c r
  unfolding read_given
  read_given_stops a b u r c e = ap (λ o. on_took o b) e

  pub read_then_took : {A B : Type 0} (a : List T → Reading T A) (b : List T → Reading T B) (u m r : List T) (x : A) (y : B) →
      a u ≡ took x m → b m ≡ took y r → read_then a b u ≡ took (x, y) r
  unfolding read_then
  read_then_took a b u m r x y e f =
      ap (λ o. on_took o (λ v n. on_took (b n) (λ w s. took (v, w) s))) e ∙ ap (λ o. on_took o (λ w s. took (x, w) s)) f

  pub read_then_first : {A B : Type 0} (a : List T → Reading T A) (b : List T → Reading T B) (u r : List T) (c : Cause) →
      a u ≡ stops c r → read_then a b u ≡ stops c r
  unfolding read_then
  read_then_first a b u r c e = ap (λ o. on_took o (λ v n. on_took (b n) (λ w s. took (v, w) s))) e

  pub read_then_second : {A B : Type 0} (a : List T → Reading T A) (b : List T → Reading T B) (u m r : List T) (x : A) (c : Cause) →
      a u ≡ took x m → b m ≡ stops c r → read_then a b u ≡ stops c r
  unfolding read_then
  read_then_second a b u m r x c e f =
      ap (λ o. on_took o (λ v n. on_took (b n) (λ w s. took (v, w) s))) e ∙ ap (λ o. on_took o (λ w s. took (x, w) s)) f

module _ {T : Type 0} (kind : T → ℕ) where
  past_here : {A : Type 0} (k : ℕ) (next : List T → Reading T A) (t : T) (r : List T) →
      kind t ≡ k → past_token kind k next (t ∷ r) ≡ next r
  past_here k next t r e = ap (λ b. cond b (next r) (stops expected (t ∷ r))) (eq-eqb (kind t) k e)

  past_other : {A : Type 0} (k : ℕ) (next : List T → Reading T A) (t : T) (r : List T) →
      (kind t ≡ k → ⊥) → past_token kind k next (t ∷ r) ≡ stops expected (t ∷ r)
  past_other k next t r e = ap (λ b. cond b (next r) (stops expected (t ∷ r))) (ne_eqb (kind t) k e)

  pub read_fixed_took : (k : ℕ) (t : T) (r : List T) → kind t ≡ k → read_fixed kind k (t ∷ r) ≡ took tt r
  unfolding read_fixed
  read_fixed_took k t r e = past_here k (λ s. took tt s) t r e

  pub read_fixed_stops : (k : ℕ) (t : T) (r : List T) → (kind t ≡ k → ⊥) → read_fixed kind k (t ∷ r) ≡ stops expected (t ∷ r)
  unfolding read_fixed
  read_fixed_stops k t r e = past_other k (λ s. took tt s) t r e

  pub read_fixed_end : (k : ℕ) → read_fixed kind k [] ≡ stops expected []
  unfolding read_fixed
  read_fixed_end k = refl

  pub read_skip_took : {A : Type 0} (k : ℕ) (a : List T → Reading T A) (t : T) (r : List T) →
      kind t ≡ k → read_skip kind k a (t ∷ r) ≡ a r
  unfolding read_skip
  read_skip_took k a t r e = past_here k a t r e

  pub read_skip_stops : {A : Type 0} (k : ℕ) (a : List T → Reading T A) (t : T) (r : List T) →
      (kind t ≡ k → ⊥) → read_skip kind k a (t ∷ r) ≡ stops expected (t ∷ r)
  unfolding read_skip
  read_skip_stops k a t r e = past_other k a t r e

  pub read_skip_end : {A : Type 0} (k : ℕ) (a : List T → Reading T A) → read_skip kind k a [] ≡ stops expected []
  unfolding read_skip
  read_skip_end k a = refl

  pub read_ends_took : {A : Type 0} (a : List T → Reading T A) (k : ℕ) (u : List T) (t : T) (r : List T) (x : A) →
      a u ≡ took x (t ∷ r) → kind t ≡ k → read_ends kind a k u ≡ took x r
  unfolding read_ends
  read_ends_took a k u t r x e f = ap (λ o. on_took o (λ y m. past_token kind k (λ s. took y s) m)) e ∙ past_here k (λ s. took x s) t r f

  pub read_ends_first : {A : Type 0} (a : List T → Reading T A) (k : ℕ) (u r : List T) (c : Cause) →
      a u ≡ stops c r → read_ends kind a k u ≡ stops c r
  unfolding read_ends
  read_ends_first a k u r c e = ap (λ o. on_took o (λ y m. past_token kind k (λ s. took y s) m)) e

  pub read_ends_stops : {A : Type 0} (a : List T → Reading T A) (k : ℕ) (u : List T) (t : T) (r : List T) (x : A) →
      a u ≡ took x (t ∷ r) → (kind t ≡ k → ⊥) → read_ends kind a k u ≡ stops expected (t ∷ r)
  unfolding read_ends
  read_ends_stops a k u t r x e f = ap (λ o. on_took o (λ y m. past_token kind k (λ s. took y s) m)) e ∙ past_other k (λ s. took x s) t r f

  pub read_ends_end : {A : Type 0} (a : List T → Reading T A) (k : ℕ) (u : List T) (x : A) →
      a u ≡ took x [] → read_ends kind a k u ≡ stops expected []
  unfolding read_ends
  read_ends_end a k u x e = ap (λ o. on_took o (λ y m. past_token kind k (λ s. took y s) m)) e

  pub read_either_first : {A : Type 0} (first : List ℕ) (a b : List T → Reading T A) (u : List T) →
      starts kind first u ≡ true → read_either kind first a b u ≡ a u
  unfolding read_either
  read_either_first first a b u e = ap (λ c. cond c (a u) (b u)) e

  pub read_either_second : {A : Type 0} (first : List ℕ) (a b : List T → Reading T A) (u : List T) →
      starts kind first u ≡ false → read_either kind first a b u ≡ b u
  unfolding read_either
  read_either_second first a b u e = ap (λ c. cond c (a u) (b u)) e

  pub read_optional_some : {A : Type 0} (first : List ℕ) (a : List T → Reading T A) (u r : List T) (x : A) →
      starts kind first u ≡ true → a u ≡ took x r → read_optional kind first a u ≡ took (Some x) r
  unfolding read_optional
  read_optional_some first a u r x e f = read_either_first first _ _ u e ∙ read_of_took Some a u r x f

  pub read_optional_stops : {A : Type 0} (first : List ℕ) (a : List T → Reading T A) (u r : List T) (c : Cause) →
      starts kind first u ≡ true → a u ≡ stops c r → read_optional kind first a u ≡ stops c r
  unfolding read_optional
  read_optional_stops first a u r c e f = read_either_first first _ _ u e ∙ read_of_stops Some a u r c f

  pub read_optional_none : {A : Type 0} (first : List ℕ) (a : List T → Reading T A) (u : List T) →
      starts kind first u ≡ false → read_optional kind first a u ≡ took None u
  unfolding read_optional read_empty
  read_optional_none first a u e = read_either_second first _ _ u e

  pub read_nothing_first : {A : Type 0} (first : List ℕ) (c : Cause) (u : List T) →
      starts kind first u ≡ true → read_nothing kind {A = A} first c u ≡ stops c u
  unfolding read_nothing
  read_nothing_first first c u e = ap (λ b. cond b (stops c u) (stops expected u)) e

  pub read_nothing_other : {A : Type 0} (first : List ℕ) (c : Cause) (u : List T) →
      starts kind first u ≡ false → read_nothing kind {A = A} first c u ≡ stops expected u
  unfolding read_nothing
  read_nothing_other first c u e = ap (λ b. cond b (stops c u) (stops expected u)) e

  pub read_within_room : {A : Type 0} (room : Bool) (first : List ℕ) (c : Cause) (a : List T → Reading T A) (u : List T) →
      room ≡ true → read_within kind room first c a u ≡ a u
  unfolding read_within
  read_within_room room first c a u e = ap (λ b. cond b (a u) (read_nothing kind first c u)) e

  pub read_within_passed : {A : Type 0} (room : Bool) (first : List ℕ) (c : Cause) (a : List T → Reading T A) (u : List T) →
      room ≡ false → starts kind first u ≡ true → read_within kind room first c a u ≡ stops c u
  unfolding read_within
  read_within_passed room first c a u e f = ap (λ b. cond b (a u) (read_nothing kind first c u)) e ∙ read_nothing_first first c u f

  pub read_within_other : {A : Type 0} (room : Bool) (first : List ℕ) (c : Cause) (a : List T → Reading T A) (u : List T) →
      room ≡ false → starts kind first u ≡ false → read_within kind room first c a u ≡ stops expected u
  unfolding read_within
  read_within_other room first c a u e f = ap (λ b. cond b (a u) (read_nothing kind first c u)) e ∙ read_nothing_other first c u f

  pub read_nested_last : {A : Type 0} (body : (List T → Reading T A) → List T → Reading T A) (first : List ℕ) (u : List T) →
      read_nested kind body first zero u ≡ body (read_nothing kind first nested) u
  unfolding read_nested
  read_nested_last body first u = refl

  pub read_nested_more : {A : Type 0} (body : (List T → Reading T A) → List T → Reading T A) (first : List ℕ) (depth : ℕ) (u : List T) →
      read_nested kind body first (suc depth) u ≡ body (read_nested kind body first depth) u
  unfolding read_nested
  read_nested_more body first depth u = refl

-- the steps of all readings but those of lists
pub ruleset steps = (read_empty_took, read_one_took, read_one_stops, read_one_end, read_of_took, read_of_stops, read_given_took, read_given_stops, read_then_took, read_then_first, read_then_second, read_fixed_took, read_fixed_stops, read_fixed_end, read_skip_took, read_skip_stops, read_skip_end, read_ends_took, read_ends_first, read_ends_stops, read_ends_end, read_either_first, read_either_second, read_optional_some, read_optional_stops, read_optional_none, read_nothing_first, read_nothing_other, read_within_room, read_within_passed, read_within_other, read_nested_last, read_nested_more)
