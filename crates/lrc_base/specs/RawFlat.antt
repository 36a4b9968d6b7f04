-- How terms as they are written, and their builders, keep their items.
use Rattle.std.specs.Prelude.{◌≡◌, ℕ, List, length}
use Rattle.lrc_base.specs.declared.item.RawTermItem.{RawTermItem}
use Rattle.lrc_base.specs.RawTerms.{raw_forest, RawFits}

-- items that make one tree
pub record IsOneRaw (items : List RawTermItem) : Type 0 where
  pub one : length (raw_forest items) ≡ 1
  pub fits : RawFits items

-- items, with the number of the trees that they make
pub record HasWaiting (items : List RawTermItem) (n : ℕ) : Type 0 where
  pub fits : RawFits items
  pub waiting : n ≡ length (raw_forest items)
