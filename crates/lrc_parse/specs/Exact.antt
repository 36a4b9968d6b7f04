-- When a reading reads exactly a language.
use Rattle.std.specs.Prelude.{◌≡◌, ℕ, Bool, true, false, cond, List, [], ◌∷◌, ◌++◌}
use Rattle.lrc_parse.specs.Kinds.{has, starts}
use Rattle.lrc_parse.specs.Language.{Lang}
use Rattle.lrc_parse.specs.Reading.{Reading, took}

-- what the next token tells of a language
pub record Shape : Type 0 where
  -- the kinds of tokens with which a sentence begins
  pub first : List ℕ
  -- whether the sentence of no tokens may be one
  pub empty : Bool
  -- the kinds of tokens with which a sentence may go on to a longer one
  pub more : List ℕ

module _ {T A : Type 0} (kind : T → ℕ) where
  -- what is read is a sentence with its value, and a sentence before a token that can't go on with it is read whole
  pub record Exact (s : Shape) (L : Lang T A) (read : List T → Reading T A) : Type 0 where
    pub sound : (u : List T) (x : A) (r : List T) → read u ≡ took x r → (p : List T) × (u ≡ p ++ r) × L p x
    pub complete : (p r : List T) (x : A) → L p x → starts kind s.more r ≡ false → read (p ++ r) ≡ took x r
    pub first : (t : T) (p : List T) (x : A) → L (t ∷ p) x → has s.first (kind t) ≡ true
    pub empty : (x : A) → L [] x → s.empty ≡ true

-- the shape of one of these tokens
abbrev pub shape_one : List ℕ → Shape
shape_one ks = record { first = ks; empty = false; more = [] }

-- the shape of the empty sentence
abbrev pub shape_empty : Shape
shape_empty = record { first = []; empty = true; more = [] }

-- the shape of one and then the other
abbrev pub shape_then : Shape → Shape → Shape
shape_then s t = record {
  first = cond s.empty (s.first ++ t.first) s.first;
  empty = cond s.empty t.empty false;
  more = cond t.empty (t.more ++ s.more) t.more;
}

-- the shape of the one or the other, the first never empty
abbrev pub shape_either : Shape → Shape → Shape
shape_either s t = record {
  first = s.first ++ t.first;
  empty = t.empty;
  more = cond t.empty (s.more ++ (t.more ++ s.first)) (s.more ++ t.more);
}

-- the shape of `L` behind a token of the kind
abbrev pub shape_skip : ℕ → Shape → Shape
shape_skip k s = record { first = k ∷ []; empty = false; more = s.more }

-- the shape of `L` before a token of the kind
abbrev pub shape_ends : Shape → ℕ → Shape
shape_ends s k = shape_then s (shape_one (k ∷ []))

-- the shape of any number of items
abbrev pub shape_many : Shape → Shape
shape_many s = record { first = s.first; empty = true; more = s.first ++ s.more }
