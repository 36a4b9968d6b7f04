use Rattle.std.proofs.Common.{◌≡◌, ℕ, zero, suc, ◌+◌, ◌-◌, List, [], ◌∷◌, length, take, drop, refl, sym, ap, ◌∙◌, subst, arith, add-one}
use Rattle.std.proofs.Math.Seq.{take-length}
use Rattle.lrc_base.specs.Name.{IsName}
use Rattle.lrc_reader.proofs.lexeme.lexeme_of.Goals as goal

take_none : (n : ℕ) → take {A = ℕ} n [] ≡ []
take_none zero = refl
take_none (suc n) = refl

drop_next : (n : ℕ) (xs : List ℕ) → drop 1 (drop n xs) ≡ drop (suc n) xs
drop_next zero xs = refl
drop_next (suc n) [] = refl
drop_next (suc n) (x ∷ xs) = drop_next n xs

-- all of some items but the first
but_first : (n : ℕ) (xs : List ℕ) → take (length (take n xs) - 1) (drop 1 (take n xs)) ≡ take (n - 1) (drop 1 xs)
but_first zero xs = refl
but_first (suc n) [] = take_none (0 - 1) ∙ sym (take_none (suc n - 1))
but_first (suc n) (x ∷ xs) =
    let e : suc (length (take n xs)) - 1 ≡ length (take n xs) = omega arith in
    let f : n ≡ suc n - 1 = omega arith in
    ap (λ m. take m (take n xs)) e ∙ take-length (take n xs) ∙ ap (λ m. take m xs) f

-- a name literal, without its first byte
pub name-requires : goal.name-requires
name-requires c =
    let e : c.args.token.end - (c.args.token.at + 1) ≡ c.args.token.end - c.args.token.at - 1 = omega arith in
    let f : drop (c.args.token.at + 1) c.args.text.now ≡ drop 1 (drop c.args.token.at c.args.text.now) = rw add-one (sym (drop_next c.args.token.at c.args.text.now)) in
    subst IsName
    (ap (λ n. take n (drop (c.args.token.at + 1) c.args.text.now)) e
    ∙ ap (take (c.args.token.end - c.args.token.at - 1)) f
    ∙ sym (but_first (c.args.token.end - c.args.token.at) (drop c.args.token.at c.args.text.now)))
    (c.requires.quoted c.in-NameLit.is)
