-- What an exact reading says of a whole text.
use Rattle.std.proofs.Common.{◌≡◌, ℕ, ◌+◌, ◌<◌, false, List, [], ◌∷◌, ◌++◌, length, refl, sym, ap, ◌∙◌, subst, length-append, arith}
use Rattle.std.proofs.lemmas.List.{append-nil}
use Rattle.lrc_parse.specs.Language.{Lang}
use Rattle.lrc_parse.specs.Reading.{Cause, Reading, took, stops}
use Rattle.lrc_parse.specs.Exact.{Shape, Exact}
use Rattle.lrc_parse.proofs.Sets.{true_not_false}
use Rattle.lrc_parse.proofs.Back.{same_value, same_rest, stops_not_took}

module _ {T A : Type 0} (kind : T → ℕ) (s : Shape) (L : Lang T A) (read : List T → Reading T A) (e : Exact kind s L read) where
  -- a sentence is read to its end
  pub whole_read : (u : List T) (x : A) → L u x → read u ≡ took x []
  whole_read u x l = ap read (sym (append-nil u)) ∙ e.complete u [] x l refl

  -- what is read to its end is a sentence
  pub read_whole : (u : List T) (x : A) → read u ≡ took x [] → L u x
  read_whole u x h =
      let w : (p : List T) × (u ≡ p ++ []) × L p x = e.sound u x [] h in
      subst (λ v. L v x) (sym (w.1 ∙ append-nil w.0)) w.2

  -- a text stands for one value at most
  pub one_value : (u : List T) (x y : A) → L u x → L u y → x ≡ y
  one_value u x y l m = same_value x y [] [] (sym (whole_read u x l) ∙ whole_read u y m)

  -- where the reading stops, the text stands for nothing
  pub stops_none : (u r : List T) (c : Cause) (x : A) → read u ≡ stops c r → L u x → ⊥
  stops_none u r c x h l = stops_not_took c x r [] (sym h ∙ whole_read u x l)

  -- where a token is left, the text stands for nothing
  pub rest_none : (u r : List T) (t : T) (x y : A) → read u ≡ took y (t ∷ r) → L u x → ⊥
  rest_none u r t x y h l = left (same_rest y x (t ∷ r) [] (sym h ∙ whole_read u x l))
    where
      left : t ∷ r ≡ [] → ⊥
      left i = cc

  -- a language without the empty sentence takes a token
  pub shorter : s.empty ≡ false → (u r : List T) (x : A) → read u ≡ took x r → length r < length u
  shorter n u r x h = let w : (p : List T) × (u ≡ p ++ r) × L p x = e.sound u x r h in go w.0 w.1 w.2
    where
      go : (p : List T) → u ≡ p ++ r → L p x → length r < length u
      go [] i l = absurd (true_not_false _ (e.empty x l) n)
      go (t ∷ p) i l =
          let f : length (p ++ r) ≡ length p + length r = length-append p r in
          let g : length u ≡ length (t ∷ (p ++ r)) = ap length i in omega (arith, f, g)
