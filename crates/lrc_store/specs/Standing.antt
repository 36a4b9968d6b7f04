-- What a store stands for.
use Rattle.std.specs.Prelude.{ℕ, ◌≡◌, ◌≢◌, ◌↔◌, ◌+◌, ◌*◌, ◌<◌, ◌≤◌, ◌^◌, Bool, false, List, [], ◌∷◌, ◌++◌, length, Option, Some, None, IsSome, Contains, unwrap_or, option_to_list}
use Rattle.lrc_store.specs.Cells.{CellTree, nil, IsClosed}

-- What a store stands for at one time.
--   known    the cell that a handle stands for, where the handle is known
--   made     the cells of the rows that this owner published, in order
--   drawn    the last cell for which rows were drawn from a pool
--   pooled   whether rows may come from a pool, so that the quota may fall
--   quota    how many rows this owner may publish
--   blocks   how many blocks of 64 rows this owner drew from a pool
--   meets    how often owners met, till this one was what is left of them
--   lives    how many of the lives that the owners of one table share are this one's
--   dry      whether the pool was found drawn out
--   memo     the remembered pairs of a call and its result, where the store tells them
--   seen     cells that are in the store for good, nil left out, where the store tells them
--   missed   how many recalls found nothing
--   identity numbers that tell the memory of its cells, where it may be shared, from any other
pub record Standing : Type 0 where
  pub known : ℕ → Option CellTree
  pub made : List CellTree
  pub drawn : Option CellTree
  pub pooled : Bool
  pub quota : ℕ
  pub blocks : ℕ
  pub meets : ℕ
  pub lives : ℕ
  pub dry : Bool
  pub memo : Option (List (CellTree × CellTree))
  pub seen : Option (List CellTree)
  pub missed : ℕ
  pub identity : List ℕ

-- the handle is known and stands for the cell
abbrev pub Stands : Standing → ℕ → CellTree → Type 0
Stands s handle cell = s.known handle ≡ Some cell

-- the handle is known
abbrev pub IsKnown : Standing → ℕ → Type 0
IsKnown s handle = IsSome (s.known handle)

-- the cell that a known handle stands for
abbrev pub meant : Standing → ℕ → CellTree
meant s handle = unwrap_or (s.known handle) nil

-- some known handle stands for the cell
abbrev pub IsHeld : Standing → CellTree → Type 0
IsHeld s cell = (handle : ℕ) × Stands s handle cell

-- a fact about a list, where it is told
abbrev pub Told : {A : Type 0} → Option A → (A → Type 0) → Type 0
Told None fact = Unit {0}
Told (Some list) fact = fact list

-- no cell stands at two places of the list
abbrev pub HasNoRepeats : List CellTree → Type 0
HasNoRepeats [] = Unit {0}
HasNoRepeats (cell ∷ cells) = (¬ Contains cells cell) × HasNoRepeats cells

-- the list has this many different cells
pub record HasSize (cells : List CellTree) (size : ℕ) : Type 0 where
  pub once : List CellTree
  pub no_repeats : HasNoRepeats once
  pub same : (cell : CellTree) → Contains once cell ↔ Contains cells cell
  pub count : length once ≡ size

-- 64 times the blocks is less than 64, the number of different cells that were made or drawn for, and 128 times the meets
abbrev pub PaysBlocks : Standing → Type 0
PaysBlocks s = (size : ℕ) × HasSize (s.made ++ option_to_list s.drawn) size × (64 * s.blocks < 64 + size + 128 * s.meets)

-- the call has a result in the list of pairs
abbrev pub IsRemembered : List (CellTree × CellTree) → CellTree → Type 0
IsRemembered pairs call = (outcome : CellTree) × Contains pairs (call, outcome)

-- no call is paired with two results
abbrev pub IsMap : List (CellTree × CellTree) → Type 0
IsMap pairs = (call one other : CellTree) → Contains pairs (call, one) → Contains pairs (call, other) → one ≡ other

-- where the memo is told, what is in the store for good is told too, and is just what was made
abbrev pub TellsSeen : Option (List (CellTree × CellTree)) → Option (List CellTree) → List CellTree → Type 0
TellsSeen None seen made = Unit {0}
TellsSeen (Some pairs) seen made = seen ≡ Some made

-- what is true of a store at all times
pub record IsSound (s : Standing) : Type 0 where
  pub nil_known : Stands s 0 nil
  pub finite : (handle : ℕ) → IsKnown s handle → handle < 2 ^ 32
  pub injective : (one other : ℕ) (cell : CellTree) → Stands s one cell → Stands s other cell → one ≡ other
  pub made_held : (cell : CellTree) → Contains s.made cell → IsHeld s cell
  pub made_once : HasNoRepeats s.made
  pub made_within : length s.made ≤ s.quota
  pub undrawn : s.pooled ≡ false → s.drawn ≡ None
  pub blockless : s.pooled ≡ false → s.blocks ≡ 0
  pub undry : s.pooled ≡ false → s.dry ≡ false
  pub pays_blocks : PaysBlocks s
  pub uses_blocks : length s.made ≡ s.quota → 64 * s.blocks ≤ length s.made + 64 * s.meets
  pub seen_known : Told s.seen (λ seen. (handle : ℕ) (cell : CellTree) → Stands s handle cell → cell ≢ nil → Contains seen cell)
  pub seen_closed : Told s.seen IsClosed
  pub seen_without_nil : Told s.seen (λ seen. ¬ Contains seen nil)
  pub memo_map : Told s.memo IsMap
  pub memo_seen : TellsSeen s.memo s.seen s.made
