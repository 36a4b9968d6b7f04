-- Cells of what is built, stores that gain them, and the children of a node.
use Rattle.std.proofs.Common.{◌≡◌, ◌⊎◌, inl, inr, ℕ, zero, suc, List, [], ◌∷◌, ◌++◌, sym, ◌∙◌, ap, subst, arith, Option, Some, None, Contains}
use Rattle.std.specs.Prelude.{slice_get}
use Rattle.std.proofs.lemmas.List.Elements.{Contains-append_left, Contains-append_right, Contains-append_cases}
use Rattle.std.proofs.lemmas.Grind.{flat_map-append}
use Rattle.std.proofs.lemmas.Option.{same_Some}
use Rattle.lrc_meaning.specs.Tree.{Tree, Trees, none, more, in_order}
use Rattle.lrc_store.specs.Cells.{CellTree, parts, IsWithin}
use Rattle.lrc_store.specs.Standing.{Standing, Told}
use Rattle.lrc_store.specs.Words.{Grows, Adds}
use Rattle.lrc_store.proofs.Lasting.{adds-then, adds-more}
use Rattle.lrc_code.specs.Forms.{list_cell, node_cell, tree_cell, kid_cells}
use Rattle.lrc_code.specs.Reading.{HasKid}
use Rattle.lrc_code.proofs.Decoding.{lists-injective}
use Rattle.lrc_eval.specs.Evaluating.{cells_of_trees}

-- ---- lists of cells

pub within-left : (xs ys : List CellTree) → IsWithin xs (xs ++ ys)
within-left xs ys c h = Contains-append_left xs ys c h

pub within-right : (xs ys : List CellTree) → IsWithin ys (xs ++ ys)
within-right xs ys c h = Contains-append_right xs ys c h

pub within-each : (xs ys zs : List CellTree) → IsWithin xs zs → IsWithin ys zs → IsWithin (xs ++ ys) zs
within-each xs ys zs f g c h = over (Contains-append_cases xs ys c h) where
  over : Contains xs c ⊎ Contains ys c → Contains zs c
  over (inl k) = f c k
  over (inr k) = g c k

cells-append : (ts us : List Tree) → cells_of_trees (ts ++ us) ≡ cells_of_trees ts ++ cells_of_trees us
cells-append ts us = flat_map-append (λ t. parts (tree_cell t)) ts us

pub cells-left : (ts us : List Tree) → IsWithin (cells_of_trees ts) (cells_of_trees (ts ++ us))
cells-left ts us = subst (IsWithin (cells_of_trees ts)) (sym (cells-append ts us)) (within-left (cells_of_trees ts) (cells_of_trees us))

pub cells-right : (ts us : List Tree) → IsWithin (cells_of_trees us) (cells_of_trees (ts ++ us))
cells-right ts us = subst (IsWithin (cells_of_trees us)) (sym (cells-append ts us)) (within-right (cells_of_trees ts) (cells_of_trees us))

pub cells-each : (ts us : List Tree) (zs : List CellTree) → IsWithin (cells_of_trees ts) zs → IsWithin (cells_of_trees us) zs → IsWithin (cells_of_trees (ts ++ us)) zs
cells-each ts us zs f g =
    subst (λ (cs : List CellTree). IsWithin cs zs) (sym (cells-append ts us)) (within-each (cells_of_trees ts) (cells_of_trees us) zs f g)

-- the cells of one tree are those of its cell
pub cells-one : (t : Tree) → IsWithin (parts (tree_cell t)) (cells_of_trees (t ∷ []))
cells-one t = within-left (parts (tree_cell t)) []

pub cells-only : (t : Tree) → IsWithin (cells_of_trees (t ∷ [])) (parts (tree_cell t))
cells-only t = within-each (parts (tree_cell t)) [] (parts (tree_cell t)) (λ c h. h) (λ c h. absurd (omega (arith, h.1)))

-- ---- what is told of a store

pub told-none : (o : Option (List CellTree)) → Told o (IsWithin [])
told-none None = tt
told-none (Some seen) = λ c h. absurd (omega (arith, h.1))

pub told-less : (o : Option (List CellTree)) (xs ys : List CellTree) → IsWithin xs ys → Told o (IsWithin ys) → Told o (IsWithin xs)
told-less None xs ys w f = tt
told-less (Some seen) xs ys w f = λ c h. f c (w c h)

pub told-lasts : (a b : Option (List CellTree)) (xs : List CellTree) → Grows a b → Told a (IsWithin xs) → Told b (IsWithin xs)
told-lasts None None xs g f = tt
told-lasts None (Some after) xs g f = absurd g
told-lasts (Some before) None xs g f = absurd g
told-lasts (Some before) (Some after) xs g f = λ c h. g c (f c h)

pub told-each : (o : Option (List CellTree)) (xs ys zs : List CellTree) → ((seen : List CellTree) → IsWithin xs seen → IsWithin ys seen → IsWithin zs seen) →
    Told o (IsWithin xs) → Told o (IsWithin ys) → Told o (IsWithin zs)
told-each None xs ys zs both f g = tt
told-each (Some seen) xs ys zs both f g = both seen f g

-- ---- what is gained

-- what is gained of some cells behind what is gained of more
pub adds-in : (s t u : Standing) (cells all : List CellTree) → IsWithin cells all → Adds s t all → Adds t u cells → Adds s u all
adds-in s t u cells all w f g = adds-then s t u all f (adds-more t u cells all w g)

-- ---- children

node-kids : (p q : ℕ) (ks ls : CellTree) → node_cell p ks ≡ node_cell q ls → ks ≡ ls
node-kids p q ks ls e = cc

-- a node has one child of a number
pub one-kid : (cell : CellTree) (i : ℕ) (a b : CellTree) → HasKid cell i a → HasKid cell i b → a ≡ b
one-kid cell i a b (p, ks, e, f) (q, ls, g, h) =
    let same = lists-injective ks ls (node-kids p q (list_cell ks) (list_cell ls) (sym e ∙ g)) in
    same_Some a b (sym f ∙ ap (λ (cs : List CellTree). slice_get cs i) same ∙ h)

pub kid-cell : (ts : Trees) (i : ℕ) (t : Tree) → slice_get (in_order ts) i ≡ Some t → slice_get (kid_cells ts) i ≡ Some (tree_cell t)
kid-cell none i t e = absurd (cc)
kid-cell (more u us) zero t e = let same : u ≡ t = same_Some u t e in ap (λ (x : Tree). Some (tree_cell x)) same
kid-cell (more u us) (suc i) t e = kid-cell us i t e
