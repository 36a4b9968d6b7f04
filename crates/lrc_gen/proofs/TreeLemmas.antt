-- A tree of so many nodes, by its left and its right.
use Rattle.std.proofs.Common.{◌≡◌, ℕ, zero, suc, ◌≤◌, refl, ap, ◌∙◌, arith}
use Rattle.lrc_gen.specs.Generated.{left_nodes, right_nodes, tree_over, tree_within, tree}

-- the levels that are allowed do not show where there are enough
same_within : (j k n : ℕ) → n ≤ j → n ≤ k → tree_within j n ≡ tree_within k n
unfolding tree_within
same_within zero zero n g h = refl
same_within zero (suc k) zero g h = refl
same_within zero (suc k) (suc n) g h = absurd (omega arith)
same_within (suc j) zero zero g h = refl
same_within (suc j) zero (suc n) g h = absurd (omega arith)
same_within (suc j) (suc k) n g h =
    ap (λ left. tree_over n left (tree_within j (right_nodes n))) (same_within j k (left_nodes n) (omega arith) (omega arith))
    ∙ ap (λ right. tree_over n (tree_within k (left_nodes n)) right) (same_within j k (right_nodes n) (omega arith) (omega arith))

pub tree_parts : (n : ℕ) → tree n ≡ tree_over n (tree (left_nodes n)) (tree (right_nodes n))
unfolding tree tree_within
tree_parts zero = refl
tree_parts (suc n) =
    ap (λ left. tree_over (suc n) left (tree_within n (right_nodes (suc n)))) (same_within n (left_nodes (suc n)) (left_nodes (suc n)) (omega arith) (omega arith))
    ∙ ap (λ right. tree_over (suc n) (tree_within (left_nodes (suc n)) (left_nodes (suc n))) right) (same_within n (right_nodes (suc n)) (right_nodes (suc n)) (omega arith) (omega arith))
