-- How terms and their builders keep their items.
use Rattle.std.specs.Prelude.{◌≡◌, ℕ, List, length, map}
use Rattle.lrc_base.specs.declared.term.TermTree.{TermTree}
use Rattle.lrc_base.specs.declared.item.TermItem.{TermItem}
use Rattle.lrc_base.specs.Terms.{forest, Fits, first_tree, height_of}

-- items that make one tree, of this height
pub record IsOne (items : List TermItem) (h : ℕ) : Type 0 where
  pub one : length (forest items) ≡ 1
  pub fits : Fits items
  pub height : h ≡ height_of (first_tree (forest items))

-- items, with the heights of the trees that they make
pub record HasHeights (items : List TermItem) (hs : List ℕ) : Type 0 where
  pub fits : Fits items
  pub heights : hs ≡ map height_of (forest items)
