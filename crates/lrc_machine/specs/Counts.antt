-- What bodies do to what a store remembers and to its count of misses: a recall that finds nothing comes before the body of a
-- call, and behind its end the call is remembered. So over a whole call each recall that finds nothing is of a call of its own.
use Rattle.std.specs.Prelude.{◌≡◌, ◌⊎◌, ◌↔◌, ◌+◌, ◌-◌, ◌<◌, ◌^◌, min, ℕ, suc, List, length, Option, Some, None, Contains}
use Rattle.lrc_visit_meaning.specs.Values.{Call}
use Rattle.lrc_store.specs.Cells.{CellTree}
use Rattle.lrc_store.specs.Standing.{Standing, HasNoRepeats, IsRemembered, Told}
use Rattle.lrc_store.specs.Words.{Misses, Remembers}

-- pairs of the cells of a call and of its result
abbrev pub Pairs : Type 0
Pairs = List (CellTree × CellTree)

-- ---- what one step does

-- what was remembered still is
abbrev pub KeepsPairs : Option Pairs → Option Pairs → Type 0
KeepsPairs None None = Unit {0}
KeepsPairs (Some before) (Some after) = (call outcome : CellTree) → Contains before (call, outcome) → Contains after (call, outcome)
KeepsPairs None (Some after) = ⊥
KeepsPairs (Some before) None = ⊥

-- nothing more was remembered, and no recall found nothing
pub record IsKept (s t : Standing) : Type 0 where
  pub memo : t.memo ≡ s.memo
  pub missed : t.missed ≡ s.missed

-- one recall found nothing of the call, and nothing more was remembered
pub record IsMissed (s t : Standing) (call : CellTree) : Type 0 where
  pub memo : t.memo ≡ s.memo
  pub misses : Misses s t call

-- a result of the call was remembered, and no recall found nothing
pub record IsGained (s t : Standing) (call : CellTree) : Type 0 where
  pub outcome : CellTree
  pub remembers : Remembers s.memo t.memo call outcome
  pub missed : t.missed ≡ s.missed

-- where the memo is told, the call has no result in it
abbrev pub IsFresh : Standing → CellTree → Type 0
IsFresh s call = Told s.memo (λ pairs. ¬ IsRemembered pairs call)

-- the cell is that of one of these calls
abbrev pub IsCellOf : (Call → CellTree) → (Call → Type 0) → CellTree → Type 0
IsCellOf form calls cell = (c : Call) × calls c × (cell ≡ form c)

module _ (is_met : CellTree → Type 0) (fuel : ℕ) (s t : Standing) (level next : ℕ) where
  -- What a turn does: it keeps both, or one recall finds nothing and a body begins one level lower, or a body ends, one level
  -- higher, and its call, which is met and was not remembered, is.
  pub data Ticks : Type 0 where
    keeps : IsKept s t → next ≡ level → Ticks
    begins : {call : CellTree} → IsMissed s t call → level ≡ suc next → next < fuel → Ticks
    ends : {call : CellTree} → is_met call → IsFresh s call → IsGained s t call → next ≡ suc level → level < fuel → Ticks

-- ---- what a whole call does

-- Just the cells that are met are remembered besides those before, and the misses rose by the number of those that were not
-- remembered before, up to the last value.
pub record CountedPairs (is_met : CellTree → Type 0) (before after : Pairs) (missed now : ℕ) : Type 0 where
  pub memo : (cell : CellTree) → IsRemembered after cell ↔ (IsRemembered before cell ⊎ is_met cell)
  pub new : (cells : List CellTree) × HasNoRepeats cells
      × ((cell : CellTree) → Contains cells cell ↔ (is_met cell × (¬ IsRemembered before cell)))
      × (now ≡ min (missed + length cells) (2 ^ 64 - 1))

-- so it is where the memos are told
abbrev pub CountedIn : (CellTree → Type 0) → Option Pairs → Option Pairs → ℕ → ℕ → Type 0
CountedIn is_met None None missed now = Unit {0}
CountedIn is_met (Some before) (Some after) missed now = CountedPairs is_met before after missed now
CountedIn is_met None (Some after) missed now = ⊥
CountedIn is_met (Some before) None missed now = ⊥

abbrev pub Counted : Standing → Standing → (CellTree → Type 0) → Type 0
Counted s t is_met = CountedIn is_met s.memo t.memo s.missed t.missed
