-- Trees and lists of children by the outermost forms of their cells, and leaves, which have no places but their own.
use Rattle.std.proofs.Common.{◌≡◌, ◌≢◌, ◌⊎◌, inl, inr, ℕ, zero, suc, ◌+◌, ◌-◌, ◌<◌, ◌≤◌, ℤ, true, false, List, ◌∷◌, length, Some, None, refl, sym, ap, ◌∙◌, subst, arith}
use Rattle.std.specs.Int.{div_ceil}
use Rattle.lrc_base.specs.declared.grammar.Kind.{Kind}
use Rattle.lrc_base.specs.declared.grammar.Kind.TheVariants as k
use Rattle.lrc_meaning.specs.Tree.{Tree, int, bool, name, node, Trees, none, more, at_place}
use Rattle.lrc_store.specs.Cells.{CellTree, nil, number, pair}
use Rattle.lrc_store.specs.Standing.{Standing}
use Rattle.lrc_store.specs.Words.{Shows}
use Rattle.lrc_store.specs.declared.cells.Cell.{Cell}
use Rattle.lrc_store.specs.declared.cells.Cell.TheVariants as cell
use Rattle.lrc_code.specs.Forms.{words_cell, name_cell, tree_cell}
use Rattle.lrc_eval.proofs.ValueLemmas.{number-tree}
use Rattle.lrc_places.specs.Places.{kids_cell, kind_of_leaf}

-- ---- forms of cells

words-low : (n : ℕ) (bytes : List ℕ) (tag : ℕ) (l r : CellTree) → words_cell n bytes ≡ pair tag l r → tag < 256
words-low zero bytes tag l r e = absurd (cc)
words-low (suc n) bytes tag l r e = let same : 3 ≡ tag = cc in omega (arith, same)

name-low : (bytes : List ℕ) (tag : ℕ) (l r : CellTree) → name_cell bytes ≡ pair tag l r → tag < 256
unfolding name_cell
name-low bytes tag l r e = words-low (div_ceil (length bytes) 8) bytes tag l r e

-- ---- trees

-- a pair with a tag from 256 on is a node's
pub node-shown : (t : Tree) (tag : ℕ) (l r : CellTree) → tree_cell t ≡ pair tag l r → 256 ≤ tag → (kids : Trees) × (t ≡ node (tag - 256) kids) × (l ≡ kids_cell kids)
node-shown (int i) tag l r e h = absurd (cc)
node-shown (bool true) tag l r e h = let same : 2 ≡ tag = cc in absurd (omega (arith, same, h))
node-shown (bool false) tag l r e h = let same : 1 ≡ tag = cc in absurd (omega (arith, same, h))
node-shown (name n) tag l r e h = let low = name-low n tag l r e in absurd (omega (arith, low, h))
node-shown (node p kids) tag l r e h =
    let same : 256 + p ≡ tag = cc in
    let own : p ≡ tag - 256 = omega (arith, same) in
    (kids, ap (λ q. node q kids) own, cc)

-- a number is a leaf's
pub number-shown : (t : Tree) (z : ℤ) → tree_cell t ≡ number z → kind_of_leaf t ≡ Some k.Int
number-shown t z e = ap kind_of_leaf (number-tree t z e)

-- ---- lists of children

none-shown : (ts : Trees) → kids_cell ts ≡ nil → ts ≡ none
none-shown none e = refl
none-shown (more t ts) e = absurd (cc)

no-list : (ts : Trees) (z : ℤ) → kids_cell ts ≢ number z
no-list none z e = absurd (cc)
no-list (more t ts) z e = absurd (cc)

-- what is no pair is the empty list
pub empty-shown : (s : Standing) (ts : Trees) (shown : Cell) (whole : CellTree) → whole ≡ kids_cell ts → (shown ≡ cell.Nil) ⊎ ((z : ℤ) × (shown ≡ cell.Number z)) → Shows s shown whole → ts ≡ none
empty-shown s ts shown whole e (inl is) h = none-shown ts (sym e ∙ subst (λ c. Shows s c whole) is h)
empty-shown s ts shown whole e (inr (z, is)) h = absurd (no-list ts z (sym e ∙ subst (λ c. Shows s c whole) is h))

pub first-shown : (ts : Trees) (tag : ℕ) (l r : CellTree) → kids_cell ts ≡ pair tag l r → (first : Tree) × (rest : Trees) × (ts ≡ more first rest) × (l ≡ tree_cell first) × (r ≡ kids_cell rest)
first-shown none tag l r e = absurd (cc)
first-shown (more t ts) tag l r e = (t, ts, refl, cc, cc)

-- ---- leaves

pub leaf-place : (t : Tree) (kind : Kind) (s : ℕ) (steps : List ℕ) → kind_of_leaf t ≡ Some kind → at_place t (s ∷ steps) ≡ None
leaf-place (int i) kind s steps e = refl
leaf-place (bool b) kind s steps e = refl
leaf-place (name n) kind s steps e = refl
leaf-place (node p kids) kind s steps e = absurd (cc)
