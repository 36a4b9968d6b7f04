-- The words of a name, one by one.
use Rattle.std.proofs.Common.{◌≡◌, ℕ, zero, suc, ◌+◌, ◌-◌, ◌*◌, ◌<◌, ◌≤◌, min, List, [], ◌∷◌, ◌++◌, length, take, drop, refl, sym, ◌∙◌, ap, subst, arith, Contains}
use Rattle.std.proofs.Math.ListN.{replicate}
use Rattle.std.proofs.Math.Seq.{take-append-add}
use Rattle.std.proofs.lemmas.List.{drop-drop, drop-replicate, take-replicate}
use Rattle.std.specs.Int.{div_ceil, from_le_bytes, cast_signed, w64}
use Rattle.lrc_store.specs.Cells.{CellTree, number, pair, parts, IsWithin}
use Rattle.lrc_code.specs.Forms.{word, words_cell, name_cell}
use Rattle.lrc_code.proofs.Growing.{right-within}

same-front : (n k : ℕ) (xs zs : List ℕ) → k ≡ min (length xs) n → take n (take k xs ++ zs) ≡ take n (xs ++ zs)
same-front zero k xs zs e = refl
same-front (suc n) zero [] zs e = refl
same-front (suc n) zero (x ∷ xs) zs e = absurd (omega arith)
same-front (suc n) (suc k) [] zs e = refl
same-front (suc n) (suc k) (x ∷ xs) zs e = ap (λ rest. x ∷ rest) (same-front n k xs zs (omega arith))

-- only eight bytes count
pub word-front : (k : ℕ) (xs : List ℕ) → k ≡ min (length xs) 8 → word (take k xs) ≡ word xs
unfolding word
word-front k xs e = ap (λ (bytes : List ℕ). cast_signed w64 (from_le_bytes w64 bytes)) (same-front 8 k xs (replicate 8 0) e)

-- bytes with zeros behind them
pub zeros_behind : (bytes : List ℕ) → length bytes ≤ 8 → bytes ++ drop (length bytes) (replicate 8 0) ≡ take 8 (bytes ++ replicate 8 0)
zeros_behind bytes h =
    let whole : length bytes + (8 - length bytes) ≡ 8 = omega arith in
    ap (λ rest. bytes ++ rest) (drop-replicate (length bytes) 8 0 ∙ sym (take-replicate (8 - length bytes) 8 0 (omega arith)))
    ∙ sym (take-append-add bytes (replicate 8 0) (8 - length bytes))
    ∙ ap (λ m. take m (bytes ++ replicate 8 0)) whole

-- the word that stands before some words
pub next-words : (words done : ℕ) (bytes : List ℕ) → done < words →
    words_cell (done + 1) (drop (8 * (words - (done + 1))) bytes)
    ≡ pair 3 (number (word (drop (8 * (words - 1 - done)) bytes))) (words_cell done (drop (8 * (words - done)) bytes))
next-words words done bytes h =
    let from = 8 * (words - 1 - done) in
    let before : words - (done + 1) ≡ words - 1 - done = omega arith in
    let behind : 8 * (words - 1 - done) + 8 ≡ 8 * (words - done) = omega arith in
    let more : done + 1 ≡ suc done = omega arith in
    ap (λ n. words_cell n (drop (8 * (words - (done + 1))) bytes)) more
    ∙ ap (λ n. words_cell (suc done) (drop (8 * n) bytes)) before
    ∙ ap (λ rest. pair 3 (number (word (drop from bytes))) (words_cell done rest)) (drop-drop 8 from bytes ∙ ap (λ n. drop n bytes) behind)

within-words : (k n m : ℕ) (bytes : List ℕ) → m ≡ k + n → IsWithin (parts (words_cell n (drop (8 * k) bytes))) (parts (words_cell m bytes))
within-words zero n m bytes e part h = let P : ℕ → Type 0 = λ i. Contains (parts (words_cell i bytes)) part in let same : n ≡ m = omega arith in subst P same h
within-words (suc k) n zero bytes e part h = absurd (omega arith)
within-words (suc k) n (suc m) bytes e part h =
    let P : List ℕ → Type 0 = λ rest. Contains (parts (words_cell n rest)) part in
    let offset : 8 * suc k ≡ 8 + 8 * k = omega arith in
    right-within 3 (number (word bytes)) (words_cell m (drop 8 bytes)) part
    (within-words k n m (drop 8 bytes) (omega arith) part (subst P (ap (λ i. drop i bytes) offset ∙ sym (drop-drop (8 * k) 8 bytes)) h))

-- it belongs to the name
pub name-words : (words done : ℕ) (bytes : List ℕ) → words ≡ div_ceil (length bytes) 8 → done < words →
    IsWithin (parts (pair 3 (number (word (drop (8 * (words - 1 - done)) bytes))) (words_cell done (drop (8 * (words - done)) bytes)))) (parts (name_cell bytes))
unfolding name_cell
name-words words done bytes e h part held =
    let P : CellTree → Type 0 = λ c. Contains (parts c) part in
    within-words (words - (done + 1)) (done + 1) (div_ceil (length bytes) 8) bytes (omega (arith, e)) part (subst P (sym (next-words words done bytes h)) held)

-- the words from the first on are the name
pub all-words : (words done : ℕ) (bytes : List ℕ) → words ≡ div_ceil (length bytes) 8 → done ≡ words → words_cell done (drop (8 * (words - done)) bytes) ≡ name_cell bytes
unfolding name_cell
all-words words done bytes e f =
    let start : 8 * (words - done) ≡ 0 = omega arith in
    let count : done ≡ div_ceil (length bytes) 8 = f ∙ e in
    ap (λ i. words_cell done (drop i bytes)) start ∙ ap (λ n. words_cell n bytes) count
