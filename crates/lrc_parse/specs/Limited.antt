-- Languages within limits: besides the sentences, the tokens that would pass a limit.
use Rattle.std.specs.Prelude.{◌≡◌, ℕ, zero, suc, nat_lt, Bool, true, false, Option, List, [], ◌∷◌, ◌++◌, length, ◌⊎◌}
use Rattle.lrc_parse.specs.Kinds.{has}
use Rattle.lrc_parse.specs.Language as plain
use Rattle.lrc_parse.specs.Language.{Lang}
use Rattle.lrc_parse.specs.Reading.{Cause, nested}

pub record Limited (T A : Type 0) : Type 1 where
  -- which tokens stand for which value
  pub derives : Lang T A
  -- the limit that the cause names is reached behind these tokens, so that this one, which would pass it, may not come
  pub passes : Cause → List T → T → Type 0

module _ {T : Type 0} where
  -- no token at all stands for `a`
  abbrev pub Empty : {A : Type 0} → A → Limited T A
  Empty a = record { derives = plain.Empty a; passes = λ c u t. ⊥ }

  -- one token, which has a value by `value`
  abbrev pub One : {A : Type 0} → (T → Option A) → Limited T A
  One value = record { derives = plain.One value; passes = λ c u t. ⊥ }

  -- the tokens of `L` stand for what `f` makes of their value
  abbrev pub Of : {A B : Type 0} → (A → B) → Limited T A → Limited T B
  Of f L = record { derives = plain.Of f L.derives; passes = L.passes }

  -- as `L`, or none
  abbrev pub Optional : {A : Type 0} → Limited T A → Limited T (Option A)
  Optional L = record { derives = plain.Optional L.derives; passes = L.passes }

  -- one, and then another that its value chooses and whose value stands for the whole
  abbrev pub Given : {A B : Type 0} → Limited T A → (A → Limited T B) → Limited T B
  Given {A} L M = record {
    derives = plain.Given L.derives (λ x. (M x).derives);
    passes = λ c u t. L.passes c u t ⊎ ((p q : List T) × (x : A) × (u ≡ p ++ q) × L.derives p x × (M x).passes c q t);
  }

  -- the one or the other
  abbrev pub Either : {A : Type 0} → Limited T A → Limited T A → Limited T A
  Either L M = record {
    derives = plain.Either L.derives M.derives;
    passes = λ c u t. L.passes c u t ⊎ M.passes c u t;
  }

  -- any number of turns, each from the state that the one before it left
  abbrev pub Loop : {S : Type 0} → (S → Limited T S) → S → Limited T S
  Loop {S} step s = record {
    derives = plain.Loop (λ z. (step z).derives) s;
    passes = λ c u t. (p q : List T) × (z : S) × (u ≡ p ++ q) × plain.Loop (λ y. (step y).derives) s p z × (step z).passes c q t;
  }

  -- each value's tokens, one after another
  abbrev pub Many : {A : Type 0} → Limited T A → Limited T (List A)
  Many {A} L = record {
    derives = plain.Many L.derives;
    passes = λ c u t. (p q : List T) × (xs : List A) × (u ≡ p ++ q) × plain.Many L.derives p xs × L.passes c q t;
  }

-- Tokens without a value are told by their kind, a number.
module _ {T : Type 0} (kind : T → ℕ) where
  -- one token of the kind
  abbrev pub Fixed : ℕ → Limited T (Unit {0})
  Fixed k = record { derives = plain.Fixed kind k; passes = λ c u t. ⊥ }

  -- a token of the kind, and then `L`
  abbrev pub Skip : {A : Type 0} → ℕ → Limited T A → Limited T A
  Skip k L = record {
    derives = plain.Skip kind k L.derives;
    passes = λ c u t. (v : T) × (q : List T) × (u ≡ v ∷ q) × (kind v ≡ k) × L.passes c q t;
  }

  -- one item or more, with a token of the kind between each two
  abbrev pub Separated : {A : Type 0} → ℕ → Limited T A → Limited T (List A)
  Separated {A} k L = record {
    derives = plain.Separated kind k L.derives;
    passes = λ c u t. L.passes c u t ⊎ ((p : List T) × (v : T) × (q : List T) × (xs : List A) × (u ≡ p ++ v ∷ q) × (kind v ≡ k) ×
        plain.Separated kind k L.derives p xs × L.passes c q t);
  }

  -- beyond the limit of the cause: each token of these kinds would pass it
  abbrev pub Beyond : {A : Type 0} → List ℕ → Cause → Limited T A
  Beyond first cause = record { derives = plain.Nothing; passes = λ c u t. (c ≡ cause) × (u ≡ []) × (has first (kind t) ≡ true) }

  -- as `L`, which begins with these kinds, where there is room for it, and else beyond the limit of the cause
  abbrev pub Within : {A : Type 0} → Bool → List ℕ → Cause → Limited T A → Limited T A
  Within room first cause L = record {
    derives = plain.Within room L.derives;
    passes = λ c u t. ((room ≡ true) × L.passes c u t) ⊎ ((room ≡ false) × (Beyond {A = Unit {0}} first cause).passes c u t);
  }

  -- at most `n`, one after another, each of which begins with these kinds
  abbrev pub Most : {A : Type 0} → ℕ → List ℕ → Cause → Limited T A → Limited T (List A)
  Most {A} n first cause L = record {
    derives = plain.Most n (plain.Many L.derives);
    passes = λ c u t. (p q : List T) × (xs : List A) × (u ≡ p ++ q) × plain.Most n (plain.Many L.derives) p xs ×
        (Within (nat_lt (length xs) n) first cause L).passes c q t;
  }

  -- one or more, at most `n`, with a token of the kind between each two
  abbrev pub SeparatedMost : {A : Type 0} → ℕ → ℕ → List ℕ → Cause → Limited T A → Limited T (List A)
  SeparatedMost {A} k n first cause L = record {
    derives = plain.Most n (plain.Separated kind k L.derives);
    passes = λ c u t. L.passes c u t ⊎ ((p : List T) × (v : T) × (q : List T) × (xs : List A) × (u ≡ p ++ v ∷ q) × (kind v ≡ k) ×
        plain.Most n (plain.Separated kind k L.derives) p xs × (Within (nat_lt (length xs) n) first cause L).passes c q t);
  }

  -- at most `levels` bodies within one another, each of which begins with these kinds; what stands within may hang on a value
  -- that goes along, as a count so far
  unfoldable pub Levels : {Q A : Type 0} → List ℕ → ((Q → Limited T A) → Q → Limited T A) → ℕ → Q → Limited T A
  Levels first body zero q = Beyond first nested
  Levels first body (suc levels) q = body (Levels first body levels) q
