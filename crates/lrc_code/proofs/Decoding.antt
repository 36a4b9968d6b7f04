-- Reading the forms back, by which each form is injective.
use Rattle.std.proofs.Common.{◌≡◌, ℕ, zero, suc, ◌+◌, ◌-◌, ◌*◌, ◌<◌, ◌≤◌, ◌^◌, true, false, List, [], ◌∷◌, ◌++◌, length, take, drop, get_or, refl, sym, ◌∙◌, ap, arith, length-drop}
use Rattle.std.proofs.Math.ListN.{replicate}
use Rattle.std.proofs.lemmas.List.{take-append-drop}
use Rattle.std.proofs.lemmas.Nat.{le_bytes_8}
use Rattle.std.proofs.lemmas.Int.{of_z-to_z}
use Rattle.std.proofs.lemmas.Grind.{common_steps, div_ceil_times}
use Rattle.std.specs.Int.{div_ceil, from_le_bytes, to_le_bytes, cast_unsigned, w64}
use Rattle.lrc_meaning.specs.Tree.{Tree, Trees, int, bool, name, node, none, more}
use Rattle.lrc_store.specs.Cells.{CellTree}
use Rattle.lrc_code.specs.Forms.{word, words_cell, name_cell, list_cell, tree_cell, kid_cells, IsSpelling, AreSpelled, EachNameBelow}
use Rattle.lrc_code.specs.Decoding.{items_in, nonzero, bytes_of_word, bytes_of_name, by_tag, tree_in, trees_in}

pub items-back : (items : List CellTree) → items_in (list_cell items) ≡ items
items-back [] = refl
items-back (item ∷ items) = ap (λ rest. item ∷ rest) (items-back items)

pub lists-injective : (one other : List CellTree) → list_cell one ≡ list_cell other → one ≡ other
lists-injective one other e = sym (items-back one) ∙ ap items_in e ∙ items-back other

head-spelled : (x : ℕ) (xs : List ℕ) → IsSpelling (x ∷ xs) → (1 ≤ x) × (x < 256)
head-spelled x xs h = h x (0, omega arith, refl)

tail-spelled : (x : ℕ) (xs : List ℕ) → IsSpelling (x ∷ xs) → IsSpelling xs
tail-spelled x xs h byte (i, l, e) = h byte (suc i, omega (arith, l), e)

nonzero-zeros : (n m : ℕ) → nonzero (take n (replicate m 0)) ≡ []
nonzero-zeros zero m = refl
nonzero-zeros (suc n) zero = refl
nonzero-zeros (suc n) (suc m) = nonzero-zeros n m

nonzero-front : (n m : ℕ) (xs : List ℕ) → IsSpelling xs → nonzero (take n (xs ++ replicate m 0)) ≡ take n xs
nonzero-front zero m xs h = refl
nonzero-front (suc n) m [] h = nonzero-zeros (suc n) m
nonzero-front (suc n) m (zero ∷ xs) h = absurd (omega (arith, (head-spelled zero xs h).0))
nonzero-front (suc n) m (suc x ∷ xs) h = ap (λ rest. suc x ∷ rest) (nonzero-front n m xs (tail-spelled (suc x) xs h))

small : (xs : List ℕ) → IsSpelling xs → (n m i : ℕ) → get_or (take n (xs ++ replicate m 0)) i 0 < 256
small xs h zero m i = omega arith
small [] h (suc n) zero i = omega arith
small [] h (suc n) (suc m) zero = omega arith
small [] h (suc n) (suc m) (suc i) = small [] h n m i
small (x ∷ xs) h (suc n) m zero = (head-spelled x xs h).1
small (x ∷ xs) h (suc n) m (suc i) = small xs (tail-spelled x xs h) n m i

eight : (n : ℕ) (xs : List ℕ) → length (take n (xs ++ replicate n 0)) ≡ n
eight n xs = grind (arith, common_steps)

below : (bytes : List ℕ) → ((i : ℕ) → get_or bytes i 0 < 256) → from_le_bytes w64 bytes < 2 ^ 64
below bytes h = omega (arith, h 0, h 1, h 2, h 3, h 4, h 5, h 6, h 7)

-- the bytes of a word
word-back : (xs : List ℕ) → IsSpelling xs → to_le_bytes w64 (cast_unsigned w64 (word xs)) ≡ take 8 (xs ++ replicate 8 0)
unfolding word
word-back xs h =
    let bytes = take 8 (xs ++ replicate 8 0) in
    ap (to_le_bytes w64) (of_z-to_z w64 (from_le_bytes w64 bytes) (below bytes (small xs h 8 8)))
    ∙ le_bytes_8 bytes (from_le_bytes w64 bytes) (eight 8 xs) (small xs h 8 8) refl

drop-spelled : (n : ℕ) (xs : List ℕ) → IsSpelling xs → IsSpelling (drop n xs)
drop-spelled zero xs h = h
drop-spelled (suc n) [] h = h
drop-spelled (suc n) (x ∷ xs) h = drop-spelled n xs (tail-spelled x xs h)

nothing : (xs : List ℕ) → length xs ≤ 0 → [] ≡ xs
nothing [] h = refl
nothing (x ∷ xs) h = absurd (omega arith)

words-back : (n : ℕ) (xs : List ℕ) → IsSpelling xs → length xs ≤ n * 8 → bytes_of_name (words_cell n xs) ≡ xs
words-back zero xs h l = nothing xs (omega arith)
words-back (suc n) xs h l =
    ap (λ front. front ++ bytes_of_name (words_cell n (drop 8 xs))) (ap nonzero (word-back xs h) ∙ nonzero-front 8 8 xs h)
    ∙ ap (λ rest. take 8 xs ++ rest) (words-back n (drop 8 xs) (drop-spelled 8 xs h) (let long = length-drop 8 xs in omega arith))
    ∙ take-append-drop 8 xs

name-back : (xs : List ℕ) → IsSpelling xs → bytes_of_name (name_cell xs) ≡ xs
unfolding name_cell
name-back xs h = words-back (div_ceil (length xs) 8) xs h (div_ceil_times (length xs) 8 (omega arith)).0

pub names-injective : (one other : List ℕ) → IsSpelling one → IsSpelling other → name_cell one ≡ name_cell other → one ≡ other
names-injective one other h k e = sym (name-back one h) ∙ ap bytes_of_name e ∙ name-back other k

by_tag-node : (tag : ℕ) (bytes : List ℕ) (t : Tree) → 4 ≤ tag → by_tag tag bytes t ≡ t
by_tag-node zero bytes t h = absurd (omega arith)
by_tag-node (suc zero) bytes t h = absurd (omega arith)
by_tag-node (suc (suc zero)) bytes t h = absurd (omega arith)
by_tag-node (suc (suc (suc zero))) bytes t h = absurd (omega arith)
by_tag-node (suc (suc (suc (suc tag)))) bytes t h = refl

words-tree : (n : ℕ) (xs ys : List ℕ) → bytes_of_name (words_cell n xs) ≡ ys → tree_in (words_cell n xs) ≡ name ys
words-tree zero xs ys e = ap name e
words-tree (suc n) xs ys e = ap name e

name-tree : (xs : List ℕ) → IsSpelling xs → tree_in (name_cell xs) ≡ name xs
unfolding name_cell
name-tree xs h = words-tree (div_ceil (length xs) 8) xs xs (name-back xs h)

mutual
  pub tree-back : (t : Tree) → AreSpelled t → tree_in (tree_cell t) ≡ t
  tree-back (int i) h = refl
  tree-back (bool true) h = refl
  tree-back (bool false) h = refl
  tree-back (name xs) h = name-tree xs h
  tree-back (node p kids) h =
      let number : 256 + p - 256 ≡ p = omega arith in
      by_tag-node (256 + p) (bytes_of_word (list_cell (kid_cells kids)) ++ []) (node (256 + p - 256) (trees_in (list_cell (kid_cells kids)))) (omega arith)
      ∙ ap (λ q. node q (trees_in (list_cell (kid_cells kids)))) number
      ∙ ap (node p) (kids-back kids h)

  kids-back : (ts : Trees) → EachNameBelow IsSpelling ts → trees_in (list_cell (kid_cells ts)) ≡ ts
  kids-back none h = refl
  kids-back (more t ts) h = ap (λ u. more u (trees_in (list_cell (kid_cells ts)))) (tree-back t h.0) ∙ ap (more t) (kids-back ts h.1)

pub trees-injective : (one other : Tree) → AreSpelled one → AreSpelled other → tree_cell one ≡ tree_cell other → one ≡ other
trees-injective one other h k e = sym (tree-back one h) ∙ ap tree_in e ∙ tree-back other k
