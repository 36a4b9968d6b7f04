-- The trees that the items of a flat term make.
use Rattle.std.proofs.Common.{◌≡◌, ℕ, List, [], ◌∷◌, ◌++◌, map, sym, ap, ◌∙◌}
use Rattle.std.proofs.lemmas.List.{map-append}
use Rattle.lrc_base.specs.declared.term.TermTree.{TermTree}
use Rattle.lrc_base.specs.declared.term.TermTree.TheVariants as v
use Rattle.lrc_base.specs.declared.item.TermItem.{TermItem}
use Rattle.lrc_base.specs.declared.item.TermItem.TheVariants as i
use Rattle.lrc_base.specs.Forest.{joined}
use Rattle.lrc_base.specs.Terms.{grown}
use Rattle.lrc_base.proofs.ForestLemmas.{map_joined}
use Rattle.lrc_meaning.specs.Tree.{Tree, int, bool, name, node, row, tree}
use Rattle.lrc_meaning.proofs.TreeLemmas.{tree-Int, tree-Bool, tree-Name, tree-Node}

-- these trees and what the item makes
abbrev pub trees_with : List Tree → TermItem → List Tree
trees_with ts (i.Int x) = ts ++ int x ∷ []
trees_with ts (i.Bool b) = ts ++ bool b ∷ []
trees_with ts (i.Name n) = ts ++ name n ∷ []
trees_with ts (i.Node p n) = joined (λ kids. node p (row kids)) n ts

leaf : (ts : List TermTree) (u : TermTree) (t : Tree) → tree u ≡ t → map tree (ts ++ u ∷ []) ≡ map tree ts ++ t ∷ []
leaf ts u t e = map-append tree ts (u ∷ []) ∙ ap (λ x. map tree ts ++ x ∷ []) e

pub trees_grown : (ts : List TermTree) (item : TermItem) → map tree (grown ts item) ≡ trees_with (map tree ts) item
trees_grown ts (i.Int x) = leaf ts _ _ (tree-Int x)
trees_grown ts (i.Bool b) = leaf ts _ _ (tree-Bool b)
trees_grown ts (i.Name n) = leaf ts _ _ (tree-Name n)
trees_grown ts (i.Node p n) = map_joined tree (v.Node p) (λ kids. node p (row kids)) n ts (tree-Node p)
