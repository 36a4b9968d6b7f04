-- Flat terms as they are written: the trees that a list of items makes, children before their node, from left to right.
use Rattle.std.specs.Prelude.{ℕ, false, List, [], ◌∷◌, ◌++◌}
use Rattle.lrc_base.specs.declared.raw_term.RawTermTree.{RawTermTree}
use Rattle.lrc_base.specs.declared.raw_term.RawTermTree.TheVariants as t
use Rattle.lrc_base.specs.declared.item.RawTermItem.{RawTermItem}
use Rattle.lrc_base.specs.declared.item.RawTermItem.TheVariants as i
use Rattle.lrc_base.specs.Forest.{joined, grow, Fit}

-- how many trees an item takes
abbrev pub raw_wanted : RawTermItem → ℕ
raw_wanted (i.Int x) = 0
raw_wanted (i.Bool b) = 0
raw_wanted (i.Name n) = 0
raw_wanted (i.Node p n) = n

-- these trees and what the item makes
abbrev pub raw_grown : List RawTermTree → RawTermItem → List RawTermTree
raw_grown ts (i.Int x) = ts ++ t.Int x ∷ []
raw_grown ts (i.Bool b) = ts ++ t.Bool b ∷ []
raw_grown ts (i.Name n) = ts ++ t.Name n ∷ []
raw_grown ts (i.Node p n) = joined (t.Node p) n ts

-- the trees that items make
unfoldable pub raw_forest : List RawTermItem → List RawTermTree
raw_forest = grow raw_wanted raw_grown []

-- each item finds as many trees as it takes
unfoldable pub RawFits : List RawTermItem → Type 0
RawFits = Fit raw_wanted raw_grown []

-- the first of some trees
abbrev pub first_raw_tree : List RawTermTree → RawTermTree
first_raw_tree [] = t.Bool false
first_raw_tree (u ∷ us) = u
