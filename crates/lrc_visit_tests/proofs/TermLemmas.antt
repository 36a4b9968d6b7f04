-- The trees that the items of `Num(5)`, and of the number 7, make.
use Rattle.std.proofs.Common.{◌≡◌, ℤ, pos, List, [], ◌∷◌, Result, Ok, Err, refl, sym, ap, ◌∙◌}
use Rattle.std.specs.Prelude.{IfOk}
use Rattle.lrc_base.specs.declared.term.TermTree.{TermTree}
use Rattle.lrc_base.specs.declared.term.TermTree.TheVariants as v
use Rattle.lrc_base.specs.declared.item.TermItem.{TermItem}
use Rattle.lrc_base.specs.declared.item.TermItem.TheVariants as i
use Rattle.lrc_base.specs.Terms.{forest}
use Rattle.lrc_meaning.specs.Tree.{Tree, int, node, none, more, tree}
use Rattle.lrc_meaning.proofs.TreeLemmas.{tree-Int, tree-Node}
use Rattle.lrc_visit_tests.specs.Nodes.{num_five}

abbrev five_items : List TermItem
five_items = i.Int (pos 5) ∷ i.Node 0 1 ∷ []

abbrev seven_items : List TermItem
seven_items = i.Int (pos 7) ∷ []

five_made : forest five_items ≡ v.Node 0 (v.Int (pos 5) ∷ []) ∷ []
unfolding forest
five_made = refl

seven_made : forest seven_items ≡ v.Int (pos 7) ∷ []
unfolding forest
seven_made = refl

same_head : {A : Type 0} (x y : A) → x ∷ [] ≡ y ∷ [] → x ≡ y
same_head x y e = cc

pub is_five : {E : Type 0} (r : Result TermTree E) → IfOk r (λ t. forest five_items ≡ t ∷ []) → IfOk r (λ t. tree t ≡ num_five)
is_five (Ok t) h =
    ap tree (sym (same_head _ t (sym five_made ∙ h))) ∙ tree-Node 0 (v.Int (pos 5) ∷ []) ∙ ap (λ u. node 0 (more u none)) (tree-Int (pos 5))
is_five (Err e) h = h

pub is_seven : {E : Type 0} (r : Result TermTree E) → IfOk r (λ t. forest seven_items ≡ t ∷ []) → IfOk r (λ t. tree t ≡ int (pos 7))
is_seven (Ok t) h = ap tree (sym (same_head _ t (sym seven_made ∙ h))) ∙ tree-Int (pos 7)
is_seven (Err e) h = h
