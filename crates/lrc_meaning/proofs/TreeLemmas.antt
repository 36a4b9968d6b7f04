-- The equations of `tree`, one for each variant.
use Rattle.std.proofs.Common.{◌≡◌, ℕ, ℤ, Bool, List, map, sym, ap, ◌∙◌}
use Rattle.lrc_meaning.specs.Tree.{Tree, int, bool, name, node, row, tree, tree_step}
use Rattle.lrc_base.specs.declared.term.TermTree.{TermTree, TermTree-F, fold-roll-TermTree}
use Rattle.lrc_base.specs.declared.term.TermTree.TheVariants as v

pub tree-Int : (i : ℤ) → tree (v.Int i) ≡ int i
unfolding tree
tree-Int i = ap tree (sym (v.rolls-Int i)) ∙ fold-roll-TermTree Tree tree_step (TermTree-F.Int i)

pub tree-Bool : (b : Bool) → tree (v.Bool b) ≡ bool b
unfolding tree
tree-Bool b = ap tree (sym (v.rolls-Bool b)) ∙ fold-roll-TermTree Tree tree_step (TermTree-F.Bool b)

pub tree-Name : (n : List ℕ) → tree (v.Name n) ≡ name n
unfolding tree
tree-Name n = ap tree (sym (v.rolls-Name n)) ∙ fold-roll-TermTree Tree tree_step (TermTree-F.Name n)

pub tree-Node : (p : ℕ) (kids : List TermTree) → tree (v.Node p kids) ≡ node p (row (map tree kids))
unfolding tree
tree-Node p kids = ap tree (sym (v.rolls-Node p kids)) ∙ fold-roll-TermTree Tree tree_step (TermTree-F.Node p kids)

pub ruleset tree_equations = (tree-Int, tree-Bool, tree-Name, tree-Node)
