-- The height of a flat term is that of its tree.
use Rattle.std.proofs.Common.{◌≡◌, ℕ, ℤ, suc, max, Bool, List, [], ◌∷◌, map, refl, sym, ap, ◌∙◌, subst}
use Rattle.lrc_base.specs.declared.term.TermTree.{TermTree, TermTree-F, ind-TermTree, roll-TermTree}
use Rattle.lrc_base.specs.declared.term.TermTree.TheVariants as v
use Rattle.lrc_base.specs.Terms.{height_of, greatest}
use Rattle.lrc_base.proofs.HeightLemmas.{height_Int, height_Bool, height_Name, height_Node}
use Rattle.lrc_meaning.specs.Tree.{tree, row, tree_height, tallest}
use Rattle.lrc_meaning.proofs.TreeLemmas.{tree-Int, tree-Bool, tree-Name, tree-Node}

-- a property of each tree, variant by variant
module _ (P : TermTree → Type 0) where
  abbrev pub Every : List TermTree → Type 0
  Every [] = Unit {0}
  Every (x ∷ xs) = P x × Every xs

  abbrev Proved : Type 0
  Proved = (x : TermTree) × P x

  every_proved : (kids : List Proved) → Every (map (λ (x : Proved). x.0) kids)
  every_proved [] = tt
  every_proved (x ∷ kids) = (x.1, every_proved kids)

  module _ (at_int : (i : ℤ) → P (v.Int i)) (at_bool : (b : Bool) → P (v.Bool b)) (at_name : (n : List ℕ) → P (v.Name n)) (at_node : (p : ℕ) (kids : List TermTree) → Every kids → P (v.Node p kids)) where
    of_layer : (y : TermTree-F Proved) → P (roll-TermTree (Rattle.lrc_base.specs.declared.term.TermTree.map-TermTree Proved TermTree (λ x. x.0) y))
    of_layer (TermTree-F.Int i) = subst P (sym (v.rolls-Int i)) (at_int i)
    of_layer (TermTree-F.Bool b) = subst P (sym (v.rolls-Bool b)) (at_bool b)
    of_layer (TermTree-F.Name n) = subst P (sym (v.rolls-Name n)) (at_name n)
    of_layer (TermTree-F.Node p kids) = subst P (sym (v.rolls-Node p (map (λ (x : Proved). x.0) kids))) (at_node p (map (λ (x : Proved). x.0) kids) (every_proved kids))

    pub by_variant : (x : TermTree) → P x
    by_variant = ind-TermTree P (λ x y is. subst (λ z. P (roll-TermTree z)) is (of_layer y))

abbrev Agree : TermTree → Type 0
Agree t = tree_height (tree t) ≡ height_of t

greatest_agrees : (kids : List TermTree) → Every Agree kids → tallest (row (map tree kids)) ≡ greatest (map height_of kids)
greatest_agrees [] h = refl
greatest_agrees (k ∷ kids) h = ap (λ n. max n (tallest (row (map tree kids)))) h.0 ∙ ap (max (height_of k)) (greatest_agrees kids h.1)

pub height_agrees : (t : TermTree) → tree_height (tree t) ≡ height_of t
height_agrees =
    by_variant Agree
    (λ i. ap tree_height (tree-Int i) ∙ sym (height_Int i))
    (λ b. ap tree_height (tree-Bool b) ∙ sym (height_Bool b))
    (λ n. ap tree_height (tree-Name n) ∙ sym (height_Name n))
    (λ p kids h. ap tree_height (tree-Node p kids) ∙ ap suc (greatest_agrees kids h) ∙ sym (height_Node p kids))
