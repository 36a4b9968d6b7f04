-- Texts that are cut and limited, texts of children, and the bytes of words.
use Rattle.std.proofs.Common.{◌≡◌, ◌≢◌, ℕ, zero, suc, ◌+◌, ◌-◌, ◌<◌, ◌≤◌, min, true, List, [], ◌∷◌, ◌++◌, length, take, get_or, refl, sym, ap, ◌∙◌, arith, append_assoc, length-append, nat_lt}
use Rattle.std.proofs.Math.Seq.{take-append-add}
use Rattle.std.proofs.lemmas.Bool.{lt-ltb, le-ltb}
use Rattle.std.proofs.lemmas.List.{take_all, take_min, take_more, length-take, append-nil}
use Rattle.std.specs.Prelude.{codes, if◌then◌else◌}
use Rattle.lrc_base.specs.declared.limits.TheConstants.{PRINT_LIMIT}
use Rattle.lrc_meaning.specs.Text.{joined, limited}
use Rattle.lrc_code.specs.Decoding.{nonzero}
use Rattle.lrc_unparse.specs.Printing.{cut, closing}

-- ---- texts that are cut

front-again : (n : ℕ) (xs ys : List ℕ) → take n (take n xs ++ ys) ≡ take n (xs ++ ys)
front-again zero xs ys = refl
front-again (suc n) [] ys = refl
front-again (suc n) (x ∷ xs) ys = ap (λ rest. x ∷ rest) (front-again n xs ys)

pub cut-again : (xs ys : List ℕ) → cut (cut xs ++ ys) ≡ cut (xs ++ ys)
unfolding cut
cut-again xs ys = front-again (PRINT_LIMIT + 1) xs ys

front-length : (n : ℕ) (xs : List ℕ) → length (take n xs) ≡ min n (length xs)
front-length n xs = length-take n xs

pub cut-length : (xs : List ℕ) → length (cut xs) ≡ min (PRINT_LIMIT + 1) (length xs)
unfolding cut
cut-length xs = front-length (PRINT_LIMIT + 1) xs

pub cut-short : (xs : List ℕ) → length (cut xs) ≤ PRINT_LIMIT + 1
cut-short xs = let long = cut-length xs in omega (arith, long)

pub cut-all : (xs : List ℕ) → length xs ≤ PRINT_LIMIT + 1 → cut xs ≡ xs
unfolding cut
cut-all xs h = take_all (PRINT_LIMIT + 1) xs h

front-put : (n m : ℕ) (xs ys : List ℕ) → length xs ≤ n → m ≡ min (length ys) (n - length xs) → xs ++ take m ys ≡ take n (xs ++ ys)
front-put n m xs ys h e =
    let least : m ≡ min (n - length xs) (length ys) = omega (arith, e) in
    let whole : length xs + (n - length xs) ≡ n = omega (arith, h) in
    ap (λ k. xs ++ take k ys) least
    ∙ ap (λ zs. xs ++ zs) (take_min (n - length xs) ys)
    ∙ sym (take-append-add xs ys (n - length xs))
    ∙ ap (λ k. take k (xs ++ ys)) whole

-- as many bytes as there is room for
pub cut-put : (m : ℕ) (xs ys : List ℕ) → length xs ≤ PRINT_LIMIT + 1 → m ≡ min (length ys) (PRINT_LIMIT + 1 - length xs) → xs ++ take m ys ≡ cut (xs ++ ys)
unfolding cut
cut-put m xs ys h e = front-put (PRINT_LIMIT + 1) m xs ys h e

-- ---- texts of children

pub closed : (texts : List (List ℕ)) → joined texts ++ codes ")" ≡ closing true texts
closed [] = refl
closed (x ∷ []) = refl
closed (x ∷ (y ∷ rest)) = append_assoc x (codes ", " ++ joined (y ∷ rest)) (codes ")") ∙ ap (λ t. x ++ (codes ", " ++ t)) (closed (y ∷ rest))

-- ---- texts that are limited

chosen : (n m : ℕ) (long whole : List ℕ) → n < m → (if nat_lt n m then long else whole) ≡ long
chosen n m long whole h = ap (λ b. if b then long else whole) (lt-ltb n m h)

other : (n m : ℕ) (long whole : List ℕ) → m ≤ n → (if nat_lt n m then long else whole) ≡ whole
other n m long whole h = ap (λ b. if b then long else whole) (le-ltb n m h)

-- a text that was printed to its end
pub finished : (text whole : List ℕ) → length text ≤ PRINT_LIMIT → cut (text ++ []) ≡ cut whole → text ≡ limited whole
finished text whole h e =
    let same : text ≡ cut whole = sym (cut-all text (omega (arith, h))) ∙ ap cut (sym (append-nil text)) ∙ e in
    let made = cut-length whole in
    let lengths : length text ≡ length (cut whole) = ap length same in
    let few : length whole ≤ PRINT_LIMIT = omega (arith, h, made, lengths) in
    same ∙ cut-all whole (omega (arith, few)) ∙ sym (other PRINT_LIMIT (length whole) (codes "<long>") whole few)

-- a text of which too much was printed
pub too-long : (text rest whole : List ℕ) → PRINT_LIMIT < length text → cut (text ++ rest) ≡ cut whole → codes "<long>" ≡ limited whole
too-long text rest whole h e =
    let longer = length-append text rest in
    let first = cut-length (text ++ rest) in
    let second = cut-length whole in
    let lengths : length (cut (text ++ rest)) ≡ length (cut whole) = ap length e in
    let many : PRINT_LIMIT < length whole = omega (arith, h, longer, first, second, lengths) in
    sym (chosen PRINT_LIMIT (length whole) (codes "<long>") whole many)

-- ---- bytes that are no padding

nonzero-append : (xs ys : List ℕ) → nonzero (xs ++ ys) ≡ nonzero xs ++ nonzero ys
nonzero-append [] ys = refl
nonzero-append (zero ∷ xs) ys = nonzero-append xs ys
nonzero-append (suc x ∷ xs) ys = ap (λ rest. suc x ∷ rest) (nonzero-append xs ys)

pub nonzero-more : (xs : List ℕ) (i byte : ℕ) → i < length xs → byte ≡ get_or xs i 0 → nonzero (take (i + 1) xs) ≡ nonzero (take i xs) ++ nonzero (byte ∷ [])
nonzero-more xs i byte h e = ap nonzero (take_more xs i 0 h) ∙ nonzero-append (take i xs) (get_or xs i 0 ∷ []) ∙ ap (λ b. nonzero (take i xs) ++ nonzero (b ∷ [])) (sym e)

pub nonzero-one : (byte : ℕ) → byte ≢ 0 → nonzero (byte ∷ []) ≡ byte ∷ []
nonzero-one zero h = absurd (h refl)
nonzero-one (suc byte) h = refl
