-- What values mean: the cells of trees tell them apart, equal values mean equal trees, and what is known is told.
use Rattle.std.proofs.Common.{◌≡◌, ◌≢◌, ℕ, zero, suc, ◌+◌, ℤ, true, false, List, length, refl, sym, ◌∙◌, ap, subst, arith, Option, Some, None, Contains}
use Rattle.std.specs.Int.{div_ceil, int_wrap, w64}
use Rattle.std.specs.Prelude.{◌+ℤ◌, ◌-ℤ◌}
use Rattle.lrc_base.specs.declared.expr.Op.{Op}
use Rattle.lrc_base.specs.declared.expr.Op.TheVariants as o
use Rattle.lrc_meaning.specs.Tree.{Tree, int, bool, name, node}
use Rattle.lrc_meaning.specs.Expression.{operated, int_in}
use Rattle.lrc_store.specs.Cells.{CellTree, nil, number, pair, HoldsParts, IsClosed}
use Rattle.lrc_store.specs.Standing.{Standing, Stands, IsKnown, IsSound, meant, Told}
use Rattle.lrc_store.specs.Words.{Tells}
use Rattle.lrc_store.proofs.Known.{known-stands}
use Rattle.lrc_code.specs.Forms.{words_cell, name_cell, tree_cell}
use Rattle.lrc_eval.specs.declared.values.Val.{Val}
use Rattle.lrc_eval.specs.declared.values.Val.TheVariants as v
use Rattle.lrc_eval.specs.Values.{Finds}

-- ---- cells of trees

words-no-number : (n : ℕ) (bytes : List ℕ) (z : ℤ) → words_cell n bytes ≡ number z → ⊥
words-no-number zero bytes z e = absurd (cc)
words-no-number (suc n) bytes z e = absurd (cc)

name-no-number : (bytes : List ℕ) (z : ℤ) → name_cell bytes ≡ number z → ⊥
unfolding name_cell
name-no-number bytes z e = words-no-number (div_ceil (length bytes) 8) bytes z e

pub number-tree : (t : Tree) (z : ℤ) → tree_cell t ≡ number z → t ≡ int z
number-tree (int i) z e = cc
number-tree (bool true) z e = absurd (cc)
number-tree (bool false) z e = absurd (cc)
number-tree (name bytes) z e = absurd (name-no-number bytes z e)
number-tree (node p kids) z e = absurd (cc)

tag-same : (tag tag' : ℕ) (a b c d : CellTree) → pair tag a b ≡ pair tag' c d → tag ≡ tag'
tag-same tag tag' a b c d e = cc

words-tag : (n : ℕ) (bytes : List ℕ) (tag : ℕ) (l r : CellTree) → words_cell n bytes ≡ pair tag l r → tag ≡ 3
words-tag zero bytes tag l r e = absurd (cc)
words-tag (suc n) bytes tag l r e = sym (tag-same 3 tag _ _ l r e)

pub name-tag : (bytes : List ℕ) (tag : ℕ) (l r : CellTree) → name_cell bytes ≡ pair tag l r → tag ≡ 3
unfolding name_cell
name-tag bytes tag l r e = words-tag (div_ceil (length bytes) 8) bytes tag l r e

pub false-tree : (t : Tree) (tag : ℕ) (l r : CellTree) → tree_cell t ≡ pair tag l r → tag ≡ 1 → t ≡ bool false
false-tree (int i) tag l r e is = absurd (cc)
false-tree (bool true) tag l r e is = let other : 2 ≡ tag = tag-same 2 tag nil nil l r e in absurd (omega (arith, other, is))
false-tree (bool false) tag l r e is = refl
false-tree (name bytes) tag l r e is = let other = name-tag bytes tag l r e in absurd (omega (arith, other, is))
false-tree (node p kids) tag l r e is = let other : 256 + p ≡ tag = tag-same (256 + p) tag _ _ l r e in absurd (omega (arith, other, is))

pub true-tree : (t : Tree) (tag : ℕ) (l r : CellTree) → tree_cell t ≡ pair tag l r → tag ≡ 2 → t ≡ bool true
true-tree (int i) tag l r e is = absurd (cc)
true-tree (bool true) tag l r e is = refl
true-tree (bool false) tag l r e is = let other : 1 ≡ tag = tag-same 1 tag nil nil l r e in absurd (omega (arith, other, is))
true-tree (name bytes) tag l r e is = let other = name-tag bytes tag l r e in absurd (omega (arith, other, is))
true-tree (node p kids) tag l r e is = let other : 256 + p ≡ tag = tag-same (256 + p) tag _ _ l r e in absurd (omega (arith, other, is))

-- ---- what is known is told

pub known-told : (s : Standing) (h : ℕ) → IsSound s → IsKnown s h → Tells s h (meant s h)
known-told s h sound known = record {
  stands = known-stands s h known;
  seen = over s.seen sound.seen_known sound.seen_closed;
} where
  at : (seen : List CellTree) → ((handle : ℕ) (cell : CellTree) → Stands s handle cell → cell ≢ nil → Contains seen cell) → IsClosed seen → (c : CellTree) → Stands s h c → HoldsParts seen c
  at seen all closed nil e = λ part never. absurd (omega (arith, never.1))
  at seen all closed (number z) e = closed (number z) (all h (number z) e (λ same. absurd (cc)))
  at seen all closed (pair tag l r) e = closed (pair tag l r) (all h (pair tag l r) e (λ same. absurd (cc)))

  over : (o : Option (List CellTree)) → Told o (λ seen. (handle : ℕ) (cell : CellTree) → Stands s handle cell → cell ≢ nil → Contains seen cell) → Told o IsClosed → Told o (λ seen. HoldsParts seen (meant s h))
  over None all closed = tt
  over (Some seen) all closed = at seen all closed (meant s h) (known-stands s h known)

-- ---- what operators give

pub sum-found : (s : Standing) (op : Op) (a b r : ℤ) → op ≡ o.Add → r ≡ int_wrap w64 (a +ℤ b) → Finds s (operated op (int a) (int b)) (Some (v.Int r))
sum-found s op a b r e f = (int (int_wrap w64 (a +ℤ b)), ap (λ p. operated p (int a) (int b)) e, record { means = ap int (sym f); spelled = tt })

pub difference-found : (s : Standing) (op : Op) (a b r : ℤ) → op ≡ o.Sub → r ≡ int_wrap w64 (a -ℤ b) → Finds s (operated op (int a) (int b)) (Some (v.Int r))
difference-found s op a b r e f = (int (int_wrap w64 (a -ℤ b)), ap (λ p. operated p (int a) (int b)) e, record { means = ap int (sym f); spelled = tt })

number-there : (t : Tree) (n : ℤ) → Some n ≡ int_in t → int n ≡ t
number-there (int i) n e = cc
number-there (bool b) n e = absurd (cc)
number-there (name bytes) n e = absurd (cc)
number-there (node p kids) n e = absurd (cc)

-- what two numbers give, two values that are these numbers give
pub numbers-found : (s : Standing) (op : Op) (m n : ℤ) (x y : Tree) (found : Option Val) → Some m ≡ int_in x → Some n ≡ int_in y → Finds s (operated op (int m) (int n)) found → Finds s (operated op x y) found
numbers-found s op m n x y found e f h =
    let both : operated op (int m) (int n) ≡ operated op x y = ap (λ t. operated op t (int n)) (number-there x m e) ∙ ap (operated op x) (number-there y n f) in
    subst (λ wanted. Finds s wanted found) both h
