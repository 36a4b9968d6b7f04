-- Flat terms: the trees that a list of items makes, children before their node, from left to right.
use Rattle.std.specs.Prelude.{◌≡◌, ℕ, suc, max, false, List, [], ◌∷◌, ◌++◌, map}
use Rattle.lrc_base.specs.declared.term.TermTree.{TermTree}
use Rattle.lrc_base.specs.declared.term.TermTree.TheVariants as t
use Rattle.lrc_base.specs.declared.term.TermTree.TheOpen.{TermTree-F}
use Rattle.lrc_base.specs.declared.term.TermTree.TheFolds.{fold-TermTree}
use Rattle.lrc_base.specs.declared.item.TermItem.{TermItem}
use Rattle.lrc_base.specs.declared.item.TermItem.TheVariants as i
use Rattle.lrc_base.specs.Forest.{joined, grow, Fit}

-- how many trees an item takes
abbrev pub wanted : TermItem → ℕ
wanted (i.Int x) = 0
wanted (i.Bool b) = 0
wanted (i.Name n) = 0
wanted (i.Node p n) = n

-- these trees and what the item makes
abbrev pub grown : List TermTree → TermItem → List TermTree
grown ts (i.Int x) = ts ++ t.Int x ∷ []
grown ts (i.Bool b) = ts ++ t.Bool b ∷ []
grown ts (i.Name n) = ts ++ t.Name n ∷ []
grown ts (i.Node p n) = joined (t.Node p) n ts

-- the trees that items make
unfoldable pub forest : List TermItem → List TermTree
forest = grow wanted grown []

-- each item finds as many trees as it takes
unfoldable pub Fits : List TermItem → Type 0
Fits = Fit wanted grown []

-- the first of some trees
abbrev pub first_tree : List TermTree → TermTree
first_tree [] = t.Bool false
first_tree (u ∷ us) = u

abbrev pub greatest : List ℕ → ℕ
greatest [] = 0
greatest (h ∷ hs) = max h (greatest hs)

-- the height above these
abbrev pub above : List ℕ → ℕ
above hs = suc (greatest hs)

-- the heights with that of an item, which takes the last of them
abbrev pub higher : TermItem → List ℕ → List ℕ
higher (i.Int x) hs = hs ++ 0 ∷ []
higher (i.Bool b) hs = hs ++ 0 ∷ []
higher (i.Name n) hs = hs ++ 0 ∷ []
higher (i.Node p n) hs = joined above n hs

abbrev pub height_step : TermTree-F ℕ → ℕ
height_step (TermTree-F.Int x) = 0
height_step (TermTree-F.Bool b) = 0
height_step (TermTree-F.Name n) = 0
height_step (TermTree-F.Node p heights) = above heights

-- the number of nodes on the longest path; leaves are no nodes
unfoldable pub height_of : TermTree → ℕ
height_of = fold-TermTree ℕ height_step
