-- Bodies that run within one another, each waiting for the call of the one below it.
use Rattle.std.specs.Prelude.{◌≡◌, ℕ, suc, ◌<◌, ◌≤◌, ◌^◌, List, length, Option, Some, slice_get, Result, IfOk, IfErr}
use Rattle.lrc_visit_meaning.specs.Values.{Call}
use Rattle.lrc_store.specs.Cells.{CellTree}
use Rattle.lrc_store.specs.Standing.{Standing}
use Rattle.lrc_store.specs.Words.{Gains, LacksOne}
use Rattle.lrc_machine.specs.Waits.{Waits}
use Rattle.lrc_machine.specs.Counts.{Pairs, IsFresh}
use Rattle.lrc_machine.specs.declared.turns.Step.{Step}
use Rattle.lrc_machine.specs.declared.turns.Step.TheVariants as step
use Rattle.lrc_machine.specs.declared.turns.Turn.{Turn}
use Rattle.lrc_machine.specs.declared.turns.Stop.{Stop}
use Rattle.lrc_machine.specs.declared.turns.Stop.TheVariants as stop

-- by level a frame, and a mark for the body that waits there
pub record Slots (Frame Mark : Type 0) : Type 0 where
  pub frames : List Frame
  pub marks : List Mark

module _ {Frame Mark : Type 0} (form : Call → CellTree) (waits : Standing → Frame → ℕ → Call → Mark → Call → Type 0) (s : Standing) (slots : Slots Frame Mark) (fuel : ℕ) (root : Call) where
  -- at level n a body of call c, which is not remembered, waits for call d
  pub record Waiting (n : ℕ) (c d : Call) : Type 0 where
    pub frame : Frame
    pub mark : Mark
    pub has_frame : slice_get slots.frames n ≡ Some frame
    pub has_mark : slice_get slots.marks n ≡ Some mark
    pub below : n < fuel
    pub waits_for : waits s frame n c mark d
    pub fresh : IsFresh s (form c)

  -- what asks for a call with so much fuel: the root, or a body that waits for it, and what asks for the body's call
  abbrev pub Awaits : ℕ → Call → Type 0
  Awaits = Waits Waiting fuel root

-- a body of the call, which is not remembered, runs at the mark over the level's frame
pub record RunsIn {Frame Mark : Type 0} (form : Call → CellTree) (runs : Standing → Frame → ℕ → Call → Mark → Type 0) (s : Standing) (frames : List Frame) (n : ℕ) (c : Call) (mark : Mark) : Type 0 where
  pub frame : Frame
  pub has_frame : slice_get frames n ≡ Some frame
  pub runs_at : runs s frame n c mark
  pub fresh : IsFresh s (form c)

-- each frame has room
abbrev pub HaveRoom : {Frame : Type 0} → (Frame → Type 0) → List Frame → Type 0
HaveRoom {Frame} fits frames = (n : ℕ) (frame : Frame) → slice_get frames n ≡ Some frame → fits frame

-- there are so many levels
pub record HasLevels {Frame Mark : Type 0} (fits : Frame → Type 0) (slots : Slots Frame Mark) (fuel : ℕ) : Type 0 where
  pub frames : fuel ≤ length slots.frames
  pub marks : fuel ≤ length slots.marks
  pub rooms : HaveRoom fits slots.frames

module _ {Frame Mark : Type 0} (form : Call → CellTree) (asks : Standing → Call → ℕ → Type 0) (gives : Standing → ℕ → Call → ℕ → Type 0)
    (runs : Standing → Frame → ℕ → Call → Mark → Type 0) (waits : Standing → Frame → ℕ → Call → Mark → Call → Type 0) (fits : Frame → Type 0) where
  -- Whose turn it is: a call is to be opened, or its result is there, or a body goes on.
  abbrev pub IsTurn : Standing → Slots Frame Mark → ℕ → Call → ℕ → Step Mark → Type 0
  IsTurn s slots fuel root level (step.Open handle) = (c : Call) × asks s c handle.0 × Awaits form waits s slots fuel root level c
  IsTurn s slots fuel root level (step.Answer handle) = (c : Call) × gives s level c handle.0 × Awaits form waits s slots fuel root level c
  IsTurn s slots fuel root level (step.Go mark) =
      (c : Call) × (level < fuel) × RunsIn form runs s slots.frames level c mark × Awaits form waits s slots fuel root (suc level) c

  -- besides, the fuel is a number of 32 bits, and each level has a mark and a frame with room
  pub record AtTurn (s : Standing) (slots : Slots Frame Mark) (fuel : ℕ) (root : Call) (level : ℕ) (next : Step Mark) : Type 0 where
    pub small : fuel < 2 ^ 32
    pub levels : HasLevels fits slots fuel
    pub turn : IsTurn s slots fuel root level next

-- a result that is there is not the root's
abbrev pub IsInner : {Mark : Type 0} → ℕ → ℕ → Step Mark → Type 0
IsInner fuel level (step.Open handle) = Unit {0}
IsInner fuel level (step.Answer handle) = level < fuel
IsInner fuel level (step.Go mark) = Unit {0}

-- why there is no answer
abbrev pub Stops : Standing → List CellTree → Type 0 → Stop → Type 0
Stops t cells lacking stop.Full = LacksOne t cells
Stops t cells lacking stop.Deep = lacking

-- What a turn of the machine answers: it gains at most what the root meets, keeps the levels and that the memo is whole, and it
-- is another turn, with what is remembered and missed till then, or there is no answer.
pub record Turns {Mark : Type 0} (next : ℕ → Step Mark → Type 0) (ticks : ℕ → Type 0) (levels : Type 0) (whole : Option Pairs → Type 0) (s t : Standing) (cells : List CellTree) (lacking : Type 0) (answer : Result (Turn Mark) Stop) : Type 0 where
  pub gains : Gains s t cells
  pub keeps : levels
  pub wholes : whole s.memo → whole t.memo
  pub counts : IfOk answer (λ turn. ticks turn.level)
  pub ok : IfOk answer (λ turn. next turn.level turn.step)
  pub stop : IfErr answer (Stops t cells lacking)
