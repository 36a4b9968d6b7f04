-- What the calls of a store do to what it stands for.
use Rattle.std.specs.Prelude.{ℕ, ◌≡◌, ◌⊎◌, ◌+◌, ◌≤◌, ◌^◌, ◌-◌, min, true, false, List, [], ◌∷◌, ◌++◌, length, Option, Some, None, Contains, Result, IfOk, OnErr}
use Rattle.lrc_store.specs.Cells.{CellTree, nil, number, pair, HoldsParts, IsWithin}
use Rattle.lrc_store.specs.Standing.{Standing, Stands, IsKnown, IsHeld, IsSound, meant, Told, IsRemembered}
use Rattle.lrc_store.specs.declared.cells.Cell.{Cell}
use Rattle.lrc_store.specs.declared.cells.Cell.TheVariants as cell
use Rattle.lrc_store.specs.declared.cells.Handle.{Handle}
use Rattle.lrc_store.specs.declared.stores.Full.{Full}
use Rattle.lrc_store.specs.declared.stores.Recall.{Recall}
use Rattle.lrc_store.specs.declared.stores.Recall.TheVariants as recall

-- what was told is told again, and nothing of it is lost
abbrev pub Grows : Option (List CellTree) → Option (List CellTree) → Type 0
Grows None None = Unit {0}
Grows (Some before) (Some after) = IsWithin before after
Grows None (Some after) = ⊥
Grows (Some before) None = ⊥

-- each known handle stands for its cell for good
abbrev pub Keeps : Standing → Standing → Type 0
Keeps s t = (handle : ℕ) (cell : CellTree) → Stands s handle cell → Stands t handle cell

-- the quota never rises, and stays where rows come from no pool, and as long as the pool is not found drawn out, as it is
-- for good then; no block is given back
pub record KeepsQuota (s t : Standing) : Type 0 where
  pub pooled : t.pooled ≡ s.pooled
  pub at_most : t.quota ≤ s.quota
  pub fixed : s.pooled ≡ false → t.quota ≡ s.quota
  pub till_dry : t.dry ≡ false → t.quota ≡ s.quota
  pub dry : s.dry ≡ true → t.dry ≡ true
  pub blocks : s.blocks ≤ t.blocks

-- what lasts from a store before to after: what is known, what is in it for good, whose it is, and that it is sound
pub record Lasts (s t : Standing) : Type 0 where
  pub known : Keeps s t
  pub seen : Grows s.seen t.seen
  pub quota : KeepsQuota s t
  pub meets : t.meets ≡ s.meets
  pub lives : t.lives ≡ s.lives
  pub identity : t.identity ≡ s.identity
  pub sound : IsSound s → IsSound t

-- no row was made or drawn; the memo and the misses are another matter
pub record Stays (s t : Standing) : Type 0 where
  pub lasts : Lasts s t
  pub made : t.made ≡ s.made
  pub drawn : t.drawn ≡ s.drawn
  pub quota : t.quota ≡ s.quota
  pub blocks : t.blocks ≡ s.blocks
  pub dry : t.dry ≡ s.dry

-- the store was only read
pub record Reads (s t : Standing) : Type 0 where
  pub stays : Stays s t
  pub memo : t.memo ≡ s.memo
  pub missed : t.missed ≡ s.missed

-- rows of these cells were made at the end, and no others
abbrev pub Makes : List CellTree → List CellTree → List CellTree → Type 0
Makes before after cells = (rows : List CellTree) × (after ≡ before ++ rows) × IsWithin rows cells

-- rows were drawn for none of these cells or for one of them
abbrev pub Draws : Option CellTree → Option CellTree → List CellTree → Type 0
Draws before after cells = (after ≡ before) ⊎ ((cell : CellTree) × Contains cells cell × (after ≡ Some cell))

-- the store gained at most rows of these cells; the memo and the misses are another matter
pub record Gains (s t : Standing) (cells : List CellTree) : Type 0 where
  pub lasts : Lasts s t
  pub made : Makes s.made t.made cells
  pub drawn : Draws s.drawn t.drawn cells

-- the store gained at most rows of these cells
pub record Adds (s t : Standing) (cells : List CellTree) : Type 0 where
  pub gains : Gains s t cells
  pub memo : t.memo ≡ s.memo
  pub missed : t.missed ≡ s.missed

-- the handle stands for the cell, and the cell's parts are in the store for good
pub record Tells (s : Standing) (handle : ℕ) (cell : CellTree) : Type 0 where
  pub stands : Stands s handle cell
  pub seen : Told s.seen (λ seen. HoldsParts seen cell)

-- all rows are used, and the cell is in none that is known
pub record IsFullFor (s : Standing) (cell : CellTree) : Type 0 where
  pub used : length s.made ≡ s.quota
  pub unknown : ¬ IsHeld s cell
  pub unseen : Told s.seen (λ seen. ¬ Contains seen cell)

-- all rows are used, and one of these cells is in none that is known
abbrev pub LacksOne : Standing → List CellTree → Type 0
LacksOne s cells = (cell : CellTree) × Contains cells cell × IsFullFor s cell

-- what a call answers that puts a cell into the store: at most its row is gained, and that once
pub record Puts (s t : Standing) (cell : CellTree) (answer : Result Handle Full) : Type 0 where
  pub adds : Adds s t (cell ∷ [])
  pub once : length t.made ≤ length s.made + 1
  pub ok : IfOk answer (λ handle. Tells t handle.0 cell)
  pub full : OnErr answer (IsFullFor t cell)

-- the outermost form of a cell, over known handles
abbrev pub Shows : Standing → Cell → CellTree → Type 0
Shows s cell.Nil tree = tree ≡ nil
Shows s (cell.Number n) tree = tree ≡ number n
Shows s (cell.Pair tag left right) tree = IsKnown s left.0 × IsKnown s right.0 × (tree ≡ pair tag (meant s left.0) (meant s right.0))

-- a result was found: the meaning allows it, and its reach is in the store for good
pub record Finds (allows : CellTree → CellTree → Type 0) (reach : CellTree → CellTree → List CellTree) (s t : Standing) (call outcome : CellTree) (handle : ℕ) : Type 0 where
  pub allowed : allows call outcome
  pub tells : Tells t handle outcome
  pub reached : Told t.seen (IsWithin (reach call outcome))
  pub remembered : Told s.memo (λ pairs. Contains pairs (call, outcome))
  pub missed : t.missed ≡ s.missed

-- no result was found: where the memo is told there is none, and the misses rise by one, up to the last value
pub record Misses (s t : Standing) (call : CellTree) : Type 0 where
  pub missing : Told s.memo (λ pairs. ¬ IsRemembered pairs call)
  pub missed : t.missed ≡ min (s.missed + 1) (2 ^ 64 - 1)

-- what a recall answers
abbrev pub Recalls : (CellTree → CellTree → Type 0) → (CellTree → CellTree → List CellTree) → Standing → Standing → CellTree → Recall → Type 0
Recalls allows reach s t call (recall.Found handle) = Finds allows reach s t call (meant t handle.0) handle.0
Recalls allows reach s t call (recall.Missed word) = Misses s t call

-- the pairs gained this one, at some place, or have it already
abbrev pub GainsPair : List (CellTree × CellTree) → List (CellTree × CellTree) → CellTree → CellTree → Type 0
GainsPair before after call outcome =
    ((Contains before (call, outcome)) × (after ≡ before))
    ⊎ ((¬ IsRemembered before call) × ((left : List (CellTree × CellTree)) × (right : List (CellTree × CellTree)) × (before ≡ left ++ right) × (after ≡ left ++ (call, outcome) ∷ right)))

-- where the memo is told, it gains the pair
abbrev pub Remembers : Option (List (CellTree × CellTree)) → Option (List (CellTree × CellTree)) → CellTree → CellTree → Type 0
Remembers None None call outcome = Unit {0}
Remembers (Some before) (Some after) call outcome = GainsPair before after call outcome
Remembers None (Some after) call outcome = ⊥
Remembers (Some before) None call outcome = ⊥
