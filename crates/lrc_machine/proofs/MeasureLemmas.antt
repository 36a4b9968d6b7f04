-- The measure of a machine falls with each kind of turn.
use Rattle.std.proofs.Common.{◌≡◌, ℕ, zero, suc, ◌+◌, ◌-◌, ◌*◌, ◌<◌, ◌≤◌, List, [], ◌∷◌, drop, Some, slice_get, slice_set, refl, ap, ◌∙◌, arith}
use Rattle.std.proofs.lemmas.Option.{slice_get_within}
use Rattle.lrc_machine.specs.Measure.{times, weigh, base, digits}

times_more : (b x y : ℕ) → 1 ≤ b → x < y → times b x < times b y
times_more b zero zero one less = absurd (omega arith)
times_more b zero (suc y) one less = omega arith
times_more b (suc x) zero one less = absurd (omega arith)
times_more b (suc x) (suc y) one less = let below = times_more b x y one (omega arith) in omega arith

pub weigh_more : (b n x y : ℕ) → 1 ≤ b → x < y → weigh b n x < weigh b n y
weigh_more b zero x y one less = less
weigh_more b (suc n) x y one less = weigh_more b n (times b x) (times b y) one (times_more b x y one less)

-- what is left of a list from a place on
pub drop_at : {X : Type 0} (xs : List X) (i : ℕ) (x : X) → slice_get xs i ≡ Some x → drop i xs ≡ x ∷ drop (suc i) xs
drop_at [] i x e = let w = slice_get_within [] i x e in absurd (omega arith)
drop_at (y ∷ ys) zero x e = let same : y ≡ x = cc in ap (λ z. z ∷ ys) same
drop_at (y ∷ ys) (suc i) x e = drop_at ys i x e

pub drop_set : {X : Type 0} (xs : List X) (i k : ℕ) (x : X) → i < k → drop k (slice_set xs i x) ≡ drop k xs
drop_set [] i k x less = refl
drop_set (y ∷ ys) i zero x less = absurd (omega arith)
drop_set (y ∷ ys) zero (suc k) x less = refl
drop_set (y ∷ ys) (suc i) (suc k) x less = drop_set ys i k x (omega arith)

module _ {Mark : Type 0} (left : Mark → ℕ) (most : ℕ) where
  abbrev digit_row : List Mark → ℕ
  digit_row marks = digits left most marks

  -- a result is found at once
  pub hit : (marks : List Mark) (level : ℕ) → weigh (base most) level (digit_row (drop level marks)) < weigh (base most) level (suc (digit_row (drop level marks)))
  hit marks level = weigh_more (base most) level (digit_row (drop level marks)) (suc (digit_row (drop level marks))) (omega arith) (omega arith)

  -- a body begins one level lower
  pub begun : (marks : List Mark) (below : ℕ) (mark : Mark) → left mark ≤ most
      → weigh (base most) below (suc (3 * left mark + times (base most) (digit_row (drop (suc below) marks)))) < weigh (base most) (suc below) (suc (digit_row (drop (suc below) marks)))
  begun marks below mark le =
      weigh_more (base most) below (suc (3 * left mark + times (base most) (digit_row (drop (suc below) marks)))) (times (base most) (suc (digit_row (drop (suc below) marks)))) (omega arith) (omega arith)

  -- a body goes on
  pub went : (marks : List Mark) (level : ℕ) (old new : Mark) → left new < left old
      → weigh (base most) level (suc (3 * left new + times (base most) (digit_row (drop (suc level) marks)))) < weigh (base most) level (suc (3 * left old + times (base most) (digit_row (drop (suc level) marks))))
  went marks level old new less =
      weigh_more (base most) level (suc (3 * left new + times (base most) (digit_row (drop (suc level) marks)))) (suc (3 * left old + times (base most) (digit_row (drop (suc level) marks)))) (omega arith) (omega arith)

  -- it waits for a call
  pub asked : (marks after : List Mark) (level : ℕ) (old waiting : Mark) → slice_get after level ≡ Some waiting → drop (suc level) after ≡ drop (suc level) marks → 1 ≤ left waiting → left waiting ≤ left old
      → weigh (base most) level (suc (digit_row (drop level after))) < weigh (base most) level (suc (3 * left old + times (base most) (digit_row (drop (suc level) marks))))
  asked marks after level old waiting there rest one le =
      let row : digit_row (drop level after) ≡ 3 * left waiting - 1 + times (base most) (digit_row (drop (suc level) marks)) =
      ap digit_row (drop_at after level waiting there) ∙ ap (λ ms. 3 * left waiting - 1 + times (base most) (digit_row ms)) rest in
      weigh_more (base most) level (suc (digit_row (drop level after))) (suc (3 * left old + times (base most) (digit_row (drop (suc level) marks)))) (omega arith) (omega arith)

  -- it ends
  pub ended : (marks : List Mark) (level : ℕ) (old : Mark)
      → weigh (base most) (suc level) (digit_row (drop (suc level) marks)) < weigh (base most) level (suc (3 * left old + times (base most) (digit_row (drop (suc level) marks))))
  ended marks level old =
      weigh_more (base most) level (times (base most) (digit_row (drop (suc level) marks))) (suc (3 * left old + times (base most) (digit_row (drop (suc level) marks)))) (omega arith) (omega arith)

  -- it takes the result for which it waited
  pub resumed : (marks : List Mark) (level : ℕ) (waiting new : Mark) → slice_get marks level ≡ Some waiting → left new < left waiting
      → weigh (base most) level (suc (3 * left new + times (base most) (digit_row (drop (suc level) marks)))) < weigh (base most) level (digit_row (drop level marks))
  resumed marks level waiting new there less =
      let row : digit_row (drop level marks) ≡ 3 * left waiting - 1 + times (base most) (digit_row (drop (suc level) marks)) = ap digit_row (drop_at marks level waiting there) in
      weigh_more (base most) level (suc (3 * left new + times (base most) (digit_row (drop (suc level) marks)))) (digit_row (drop level marks)) (omega arith) (omega arith)
