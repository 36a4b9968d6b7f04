-- What sets of kinds say of the next token.
use Rattle.std.proofs.Common.{◌≡◌, ℕ, eqb, Bool, true, false, cond, List, [], ◌∷◌, ◌++◌, refl, sym, ap, ◌∙◌, ◌⊎◌, inl, inr}
use Rattle.std.proofs.lemmas.Bool.{eqb-true}
use Rattle.lrc_parse.specs.Kinds.{has, disjoint, covered, starts}

pub true_not_false : (b : Bool) → b ≡ true → b ≡ false → ⊥
true_not_false b e f = cc

pub has_left : (js ks : List ℕ) (k : ℕ) → has js k ≡ true → has (js ++ ks) k ≡ true
has_left [] ks k h = cc
has_left (j ∷ js) ks k h = go (eqb j k) h (has_left js ks k)
  where
    go : (b : Bool) → cond b true (has js k) ≡ true → (has js k ≡ true → has (js ++ ks) k ≡ true) → cond b true (has (js ++ ks) k) ≡ true
    go true e ih = refl
    go false e ih = ih e

pub has_right : (js ks : List ℕ) (k : ℕ) → has ks k ≡ true → has (js ++ ks) k ≡ true
has_right [] ks k h = h
has_right (j ∷ js) ks k h = go (eqb j k) (has_right js ks k h)
  where
    go : (b : Bool) → has (js ++ ks) k ≡ true → cond b true (has (js ++ ks) k) ≡ true
    go true ih = refl
    go false ih = ih

-- a kind that a set lacks is in no part of it
pub lacks_left : (js ks : List ℕ) (k : ℕ) → has (js ++ ks) k ≡ false → has js k ≡ false
lacks_left js ks k h = go (has js k) refl
  where
    go : (b : Bool) → has js k ≡ b → b ≡ false
    go true e = absurd (true_not_false _ (has_left js ks k e) h)
    go false e = refl

pub lacks_right : (js ks : List ℕ) (k : ℕ) → has (js ++ ks) k ≡ false → has ks k ≡ false
lacks_right js ks k h = go (has ks k) refl
  where
    go : (b : Bool) → has ks k ≡ b → b ≡ false
    go true e = absurd (true_not_false _ (has_right js ks k e) h)
    go false e = refl

-- no kind is in both of two disjoint sets
pub apart : (js ks : List ℕ) (k : ℕ) → disjoint js ks ≡ true → has ks k ≡ true → has js k ≡ false
apart [] ks k d h = refl
apart (j ∷ js) ks k d h = go (has ks j) refl d (λ e. apart js ks k e h)
  where
    here : (b : Bool) → eqb j k ≡ b → has ks j ≡ false → has js k ≡ false → cond b true (has js k) ≡ false
    here true e f ih = absurd (true_not_false _ h (ap (has ks) (sym (eqb-true j k e)) ∙ f))
    here false e f ih = ih

    go : (b : Bool) → has ks j ≡ b → cond b false (disjoint js ks) ≡ true → (disjoint js ks ≡ true → has js k ≡ false) → has (j ∷ js) k ≡ false
    go true e d ih = absurd (true_not_false _ d refl)
    go false e d ih = here (eqb j k) refl e (ih d)

-- a kind of two sets together is in the one or the other
pub has_cases : (js ks : List ℕ) (k : ℕ) → has (js ++ ks) k ≡ true → (has js k ≡ true) ⊎ (has ks k ≡ true)
has_cases [] ks k h = inr h
has_cases (j ∷ js) ks k h = go (eqb j k) h (has_cases js ks k)
  where
    go : (b : Bool) → cond b true (has (js ++ ks) k) ≡ true → (has (js ++ ks) k ≡ true → (has js k ≡ true) ⊎ (has ks k ≡ true)) →
        (cond b true (has js k) ≡ true) ⊎ (has ks k ≡ true)
    go true h f = inl refl
    go false h f = f h

-- what has a part of a set has the set
pub has_covered : (js ks : List ℕ) (k : ℕ) → covered js ks ≡ true → has js k ≡ true → has ks k ≡ true
has_covered [] ks k c h = cc
has_covered (j ∷ js) ks k c h = go (has ks j) refl (eqb j k) refl c h (λ d g. has_covered js ks k d g)
  where
    go : (a : Bool) → has ks j ≡ a → (b : Bool) → eqb j k ≡ b → cond a (covered js ks) false ≡ true → cond b true (has js k) ≡ true →
        (covered js ks ≡ true → has js k ≡ true → has ks k ≡ true) → has ks k ≡ true
    go true e true f c h ih = ap (has ks) (sym (eqb-true j k f)) ∙ e
    go true e false f c h ih = ih c h
    go false e b f c h ih = absurd (true_not_false false c refl)

module _ {T : Type 0} (kind : T → ℕ) where
  pub clear_covered : (js ks : List ℕ) (u : List T) → covered js ks ≡ true → starts kind ks u ≡ false → starts kind js u ≡ false
  clear_covered js ks [] c h = refl
  clear_covered js ks (t ∷ u) c h = go (has js (kind t)) refl
    where
      go : (b : Bool) → has js (kind t) ≡ b → has js (kind t) ≡ false
      go true e = absurd (true_not_false _ (has_covered js ks (kind t) c e) h)
      go false e = e

  pub clear_left : (js ks : List ℕ) (u : List T) → starts kind (js ++ ks) u ≡ false → starts kind js u ≡ false
  clear_left js ks [] h = refl
  clear_left js ks (t ∷ u) h = lacks_left js ks (kind t) h

  pub clear_right : (js ks : List ℕ) (u : List T) → starts kind (js ++ ks) u ≡ false → starts kind ks u ≡ false
  clear_right js ks [] h = refl
  clear_right js ks (t ∷ u) h = lacks_right js ks (kind t) h
