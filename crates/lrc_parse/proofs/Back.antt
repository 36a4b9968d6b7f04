-- From what a reading took back to what its parts took.
use Rattle.std.proofs.Common.{◌≡◌, ℕ, eqb, Bool, true, false, cond, Option, Some, None, List, [], ◌∷◌, refl, ap, ◌⊎◌, inl, inr}
use Rattle.std.proofs.lemmas.Bool.{eqb-true}
use Rattle.lrc_parse.specs.Reading.{Cause, expected, Reading, took, stops, on_took, token_value, past_token}

module _ {T : Type 0} where
  pub same_value : {A : Type 0} (x y : A) (r s : List T) → took x r ≡ took y s → x ≡ y
  same_value x y r s e = cc

  pub same_rest : {A : Type 0} (x y : A) (r s : List T) → took x r ≡ took y s → r ≡ s
  same_rest x y r s e = cc

  pub stops_not_took : {A : Type 0} (c : Cause) (x : A) (r s : List T) → stops c r ≡ took x s → ⊥
  stops_not_took c x r s e = cc

  pub on_took_back : {A B : Type 0} (o : Reading T A) (f : A → List T → Reading T B) (z : B) (r : List T) →
      on_took o f ≡ took z r → (x : A) × (m : List T) × (o ≡ took x m) × (f x m ≡ took z r)
  on_took_back (took x m) f z r e = (x, m, refl, e)
  on_took_back (stops c m) f z r e = absurd (stops_not_took c z m r e)

  pub token_value_back : {A : Type 0} (o : Option A) (t : T) (m : List T) (x : A) (r : List T) →
      token_value o t m ≡ took x r → (o ≡ Some x) × (m ≡ r)
  token_value_back (Some y) t m x r e = (ap Some (same_value y x m r e), same_rest y x m r e)
  token_value_back None t m x r e = absurd (stops_not_took expected x (t ∷ m) r e)

  pub cond_back : {A : Type 0} (b : Bool) (o : Reading T A) (c : Cause) (s : List T) (x : A) (r : List T) →
      cond b o (stops c s) ≡ took x r → (b ≡ true) × (o ≡ took x r)
  cond_back true o c s x r e = (refl, e)
  cond_back false o c s x r e = absurd (stops_not_took c x s r e)

  pub cond_cases : {A : Type 0} (b : Bool) (o p : Reading T A) (x : A) (r : List T) →
      cond b o p ≡ took x r → ((b ≡ true) × (o ≡ took x r)) ⊎ ((b ≡ false) × (p ≡ took x r))
  cond_cases true o p x r e = inl (refl, e)
  cond_cases false o p x r e = inr (refl, e)

module _ {T : Type 0} (kind : T → ℕ) where
  pub past_token_back : {A : Type 0} (k : ℕ) (next : List T → Reading T A) (u : List T) (x : A) (r : List T) →
      past_token kind k next u ≡ took x r → (t : T) × (m : List T) × (u ≡ t ∷ m) × (kind t ≡ k) × (next m ≡ took x r)
  past_token_back k next [] x r e = absurd (stops_not_took expected x [] r e)
  past_token_back k next (t ∷ m) x r e =
      let w : (eqb (kind t) k ≡ true) × (next m ≡ took x r) = cond_back (eqb (kind t) k) (next m) expected (t ∷ m) x r e in
      (t, m, refl, eqb-true (kind t) k w.0, w.1)
