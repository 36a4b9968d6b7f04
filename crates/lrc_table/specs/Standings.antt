-- What a pass stands for, as a store.
use Rattle.std.specs.Prelude.{ℕ, zero, suc, ◌≡◌, Bool, false, cond, ◌||◌, nat_eq, List, [], ◌++◌, length, replicate, Option, Some, None, option_to_list, Result, IfOk, OnErr}
use Rattle.std.specs.Int.{cast_signed, w64}
use Rattle.lrc_store.specs.Cells.{CellTree, nil, number, pair}
use Rattle.lrc_store.specs.Standing.{Standing}
use Rattle.lrc_store.specs.declared.cells.Handle.{Handle}
use Rattle.lrc_store.specs.declared.stores.Full.{Full}
use Rattle.lrc_rule.specs.declared.layout.Layout.{Layout}
use Rattle.lrc_rule.specs.Rows.{bucket, content}
use Rattle.lrc_rule.specs.Views.{View, now}

-- one of the first buckets holds the handle
abbrev pub is_bucketed : Layout → List ℕ → ℕ → ℕ → Bool
is_bucketed l words handle zero = false
is_bucketed l words handle (suc place) = nat_eq (bucket l words place) handle || is_bucketed l words handle place

-- the pair of two cells that there are
abbrev pub paired : ℕ → Option CellTree → Option CellTree → Option CellTree
paired tag None right = None
paired tag (Some left) None = None
paired tag (Some left) (Some right) = Some (pair tag left right)

-- the cell that a handle stands for, if it is at most so deep
unfoldable pub cell_at : Layout → List ℕ → ℕ → ℕ → Option CellTree
cell_at l words fuel zero = Some nil
cell_at l words zero (suc row) = None
cell_at l words (suc fuel) (suc row) = let c = content l words row in
    cond (is_bucketed l words (suc row) l.buckets)
    (cond (nat_eq c.tag 0) (Some (number (cast_signed w64 c.left))) (paired c.tag (cell_at l words fuel c.left) (cell_at l words fuel c.right))) None

-- the cells of the first rows
abbrev pub cells_below : Layout → List ℕ → ℕ → List CellTree
cells_below l words zero = []
cells_below l words (suc row) = option_to_list (cell_at l words l.rows (suc row)) ++ cells_below l words row

-- a pass knows the cells that were published at its last step; they are in the table for good
abbrev pub standing : View → Standing
standing v = record {
  known = cell_at v.layout (now v) v.layout.rows;
  made = v.owned.made;
  drawn = None;
  pooled = false;
  quota = v.owned.quota;
  blocks = 0;
  meets = 0;
  lives = 0;
  dry = false;
  memo = None;
  seen = Some (cells_below v.layout (now v) v.layout.rows);
  missed = 0;
  identity = [];
}

-- no other cell than this one was noted as absent
abbrev pub NotesOnly : View → View → CellTree → Type 0
NotesOnly v w cell = (count : ℕ) × (w.learned.notes ≡ v.learned.notes ++ replicate count cell)

-- a pass all of whose rows are used notes nothing where it answers a handle
abbrev pub NotesNone : View → View → Result Handle Full → Type 0
NotesNone v w answer = length v.owned.made ≡ v.owned.quota → IfOk answer (λ _. w.learned.notes ≡ v.learned.notes)

-- where there is no row for the cell, it was noted as absent, and nothing else was
abbrev pub IsNoted : View → View → CellTree → Result Handle Full → Type 0
IsNoted v w cell answer = OnErr answer ((count : ℕ) × (w.learned.notes ≡ v.learned.notes ++ replicate (suc count) cell))
