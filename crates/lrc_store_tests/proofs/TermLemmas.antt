-- The tree that the items of `Add(Num(1), Num(2))` make.
use Rattle.std.proofs.Common.{◌≡◌, ℤ, pos, List, [], ◌∷◌, Result, Ok, Err, refl, sym, ap, ◌∙◌}
use Rattle.std.specs.Prelude.{IfOk}
use Rattle.lrc_base.specs.declared.term.TermTree.{TermTree}
use Rattle.lrc_base.specs.declared.term.TermTree.TheVariants as v
use Rattle.lrc_base.specs.declared.item.TermItem.{TermItem}
use Rattle.lrc_base.specs.declared.item.TermItem.TheVariants as i
use Rattle.lrc_base.specs.Terms.{forest}
use Rattle.lrc_meaning.specs.Tree.{Tree, int, node, none, more, tree}
use Rattle.lrc_meaning.proofs.TreeLemmas.{tree-Int, tree-Node}
use Rattle.lrc_store_tests.specs.Sums.{one_and_two}

abbrev pub sum_items : List TermItem
sum_items = i.Int (pos 1) ∷ i.Node 0 1 ∷ i.Int (pos 2) ∷ i.Node 0 1 ∷ i.Node 1 2 ∷ []

abbrev num : ℤ → TermTree
num x = v.Node 0 (v.Int x ∷ [])

made : forest sum_items ≡ v.Node 1 (num (pos 1) ∷ num (pos 2) ∷ []) ∷ []
unfolding forest
made = refl

num_tree : (x : ℤ) → tree (num x) ≡ node 0 (more (int x) none)
num_tree x = tree-Node 0 (v.Int x ∷ []) ∙ ap (λ t. node 0 (more t none)) (tree-Int x)

same_head : {A : Type 0} (x y : A) → x ∷ [] ≡ y ∷ [] → x ≡ y
same_head x y e = cc

sum_tree : (t : TermTree) → forest sum_items ≡ t ∷ [] → tree t ≡ one_and_two
sum_tree t e =
    ap tree (sym (same_head _ t (sym made ∙ e)))
    ∙ tree-Node 1 (num (pos 1) ∷ num (pos 2) ∷ [])
    ∙ ap (λ u. node 1 (more u (more (tree (num (pos 2))) none))) (num_tree (pos 1))
    ∙ ap (λ u. node 1 (more (node 0 (more (int (pos 1)) none)) (more u none))) (num_tree (pos 2))

pub is_sum : {E : Type 0} (r : Result TermTree E) → IfOk r (λ t. forest sum_items ≡ t ∷ []) → IfOk r (λ t. tree t ≡ one_and_two)
is_sum (Ok t) h = sum_tree t h
is_sum (Err e) h = h
