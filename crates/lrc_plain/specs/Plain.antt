-- A store of one owner: what it keeps, and what it stands for.
use Rattle.std.specs.Prelude.{ℕ, ◌≡◌, ◌≢◌, ◌<◌, ◌≤◌, List, [], ◌∷◌, length, Contains, Some, None, false, slice_get, slice_index, suc, zero, refl}
use Rattle.std.specs.Coded.{Coded, code_by, coded_ℕ, coded_list, coded×}
use Rattle.lrc_store.specs.Cells.{CellTree, nil, IsWithin}
use Rattle.lrc_store.specs.Standing.{Standing}
use Rattle.lrc_plain.specs.Shelf.{Shelf, IsShelf, coded_shelf, at}

-- the rows, for each row the handle of the result that is remembered for its cell, or 0, the misses, and the meaning
pub record Plain (M : Type 0) : Type 0 where
  pub shelf : Shelf
  pub outcomes : List ℕ
  pub missed : ℕ
  pub meaning : M

abbrev pub coded_plain : {M : Type 0} → Coded M → Coded (Plain M)
coded_plain {M} m =
    code_by (Shelf × (List ℕ × (ℕ × M))) (coded× coded_shelf (coded× (coded_list coded_ℕ) (coded× coded_ℕ m)))
    (λ p. (p.shelf, (p.outcomes, (p.missed, p.meaning)))) (λ q. record { shelf = q.0; outcomes = q.1.0; missed = q.1.1.0; meaning = q.1.1.1 }) (λ _. refl)

-- the pairs of a call and its result, in the order of the rows of the calls
abbrev pub pairs : List CellTree → List CellTree → List ℕ → List (CellTree × CellTree)
pairs all [] outcomes = []
pairs all (cell ∷ cells) [] = []
pairs all (cell ∷ cells) (zero ∷ outcomes) = pairs all cells outcomes
pairs all (cell ∷ cells) (suc handle ∷ outcomes) = (cell, at all (suc handle)) ∷ pairs all cells outcomes

-- what such rows and results stand for: the memo is told, and nothing is forgotten
abbrev pub standing : Shelf → List ℕ → ℕ → Standing
standing shelf outcomes missed = record {
  known = slice_get (nil ∷ shelf.cells);
  made = shelf.cells;
  drawn = None;
  pooled = false;
  quota = shelf.quota;
  blocks = 0;
  meets = 0;
  lives = 0;
  dry = false;
  memo = Some (pairs shelf.cells shelf.cells outcomes);
  seen = Some shelf.cells;
  missed = missed;
  identity = [];
}

abbrev pub state_of : {M : Type 0} → Plain M → Standing
state_of store = standing store.shelf store.outcomes store.missed

abbrev pub meaning_of : {M : Type 0} → Plain M → M
meaning_of store = store.meaning

-- the handle that is kept for a handle, or 0
abbrev pub outcome : List ℕ → ℕ → ℕ
outcome outcomes handle = slice_index (0 ∷ outcomes) handle

-- what is kept of calls: for each row a result that may be remembered, or 0
pub record IsMemo (allows : CellTree → CellTree → Type 0) (reach : CellTree → CellTree → List CellTree) (rows : Shelf) (outcomes : List ℕ) : Type 0 where
  pub shelf : IsShelf rows
  pub room : length outcomes ≡ rows.quota
  pub rest : (i : ℕ) → length rows.cells ≤ i → i < length outcomes → slice_index outcomes i ≡ 0
  pub known : (i : ℕ) → i < length outcomes → slice_index outcomes i ≤ length rows.cells
  pub allowed : (handle : ℕ) → handle ≤ length rows.cells → outcome outcomes handle ≢ 0 → allows (at rows.cells handle) (at rows.cells (outcome outcomes handle))
  pub reached : (handle : ℕ) → handle ≤ length rows.cells → outcome outcomes handle ≢ 0 → IsWithin (reach (at rows.cells handle) (at rows.cells (outcome outcomes handle))) rows.cells

-- nothing was made, remembered or missed yet, and there may be this many rows
pub record IsNew (s : Standing) (rows : ℕ) : Type 0 where
  pub made : s.made ≡ []
  pub memo : s.memo ≡ Some []
  pub missed : s.missed ≡ 0
  pub quota : s.quota ≡ rows

-- the cell is in no row, and all rows are used
pub record IsFullAt (s : Standing) (cell : CellTree) : Type 0 where
  pub absent : ¬ Contains s.made cell
  pub used : length s.made ≡ s.quota
