-- The next step of a body: what stands there in its function, and what the step answers.
use Rattle.std.specs.Prelude.{◌≡◌, ℕ, suc, ◌+◌, ◌-◌, ◌<◌, ◌≤◌, ◌^◌, List, length, Some, None, slice_get, Result, IfOk, OnErr}
use Rattle.lrc_meaning.specs.Grammar as meaning
use Rattle.lrc_order_meaning.specs.declared.Partition.{Partition}
use Rattle.lrc_grammar.specs.Grammar.{grammar_of}
use Rattle.lrc_visit_meaning.specs.Values.{Call}
use Rattle.lrc_visit_meaning.specs.Visits.{plain_visit}
use Rattle.lrc_visit_meaning.specs.Demand.{reach}
use Rattle.lrc_store.specs.Standing.{Standing}
use Rattle.lrc_store.specs.Words.{Gains, LacksOne}
use Rattle.lrc_store.specs.declared.cells.Handle.{Handle}
use Rattle.lrc_store.specs.declared.stores.Full.{Full}
use Rattle.lrc_call_meaning.specs.Forms.{call_form}
use Rattle.lrc_call_meaning.specs.Reached.{cells_of}
use Rattle.lrc_eval.specs.declared.values.Val.{Val}
use Rattle.lrc_functions.specs.declared.function.Function.{Function}
use Rattle.lrc_functions.specs.declared.function.Operation.{Operation}
use Rattle.lrc_functions.specs.Functions.{function_of}
use Rattle.lrc_machine.specs.declared.bodies.Moved.{Moved}
use Rattle.lrc_machine.specs.Steps.{Moves}
use Rattle.lrc_machine.specs.Counts.{IsKept, IsGained}
use Rattle.lrc_bodies.specs.declared.mark.Mark.{Mark}
use Rattle.lrc_bodies.specs.declared.remembered.VisitMeaning.{VisitMeaning}
use Rattle.lrc_bodies.specs.Counting.{IsWhole}
use Rattle.lrc_bodies.specs.Bodies.{function_at, left_at, Asks, Gives, Runs, WaitsAt}

module _ (g : meaning.Grammar) (parts : List Partition) where
  -- The body runs at the mark behind the last operation of its function. The store's meaning is that of the same grammar, and
  -- the result's height and the visit's tag fit their types.
  pub record IsAtEnd (s : Standing) (frame : List Val) (fuel : ℕ) (c : Call) (mark : Mark) (function : Function) (remembered : VisitMeaning) : Type 0 where
    pub runs : Runs g parts s frame fuel c mark
    pub is_function : function ≡ function_of g.sorts parts runs.run.production mark.body.visit
    pub last : length function.operations ≤ mark.at
    pub low : fuel < 2 ^ 32 - 1
    pub tag : c.visit ≤ 223
    pub same_grammar : grammar_of remembered.grammar ≡ g
    pub same_parts : remembered.parts.sorts ≡ parts

  -- What the end of the body of a call with fuel + 1 answers: a handle of the call's result, which it remembers.
  pub record EndsWith (s t : Standing) (fuel : ℕ) (c : Call) (answer : Result Handle Full) : Type 0 where
    pub gains : Gains s t (cells_of (reach g parts (suc fuel) c))
    pub gives : IfOk answer (λ outcome. Gives g parts t (suc fuel) c outcome.0)
    pub full : OnErr answer (LacksOne t (cells_of (reach g parts (suc fuel) c)))
    pub counts : IfOk answer (λ _. IsGained s t (call_form c))
    pub wholes : IsWhole g parts s.memo → IsWhole g parts t.memo

-- what a step of the body of the call does to what is remembered and missed: where it ends, the call is remembered
abbrev pub CountsOn : Standing → Standing → Call → Moved Mark → Type 0
CountsOn s t c = Moves (λ _. IsKept s t) (λ _ _. IsKept s t) (λ _. IsGained s t (call_form c)) (IsKept s t)

module _ (g : meaning.Grammar) (parts : List Partition) (productions : List (List Function)) where
  -- The body runs at the mark, and this operation stands there in its function.
  pub record Faces (s : Standing) (frame : List Val) (fuel : ℕ) (c : Call) (mark : Mark) (operation : Operation) : Type 0 where
    pub runs : Runs g parts s frame fuel c mark
    pub next : slice_get (function_at productions mark).operations mark.at ≡ Some operation
    pub fits : mark.at + 1 < 2 ^ 64

  -- the body of the call runs at another mark, with less left than at this one
  abbrev pub GoesOn : Standing → List Val → ℕ → Call → Mark → Mark → Type 0
  GoesOn s frame fuel c mark next = Runs g parts s frame fuel c next × (left_at productions next < left_at productions mark)

  -- it waits at a mark for the call of this handle, with that visit left, and no more left than before
  abbrev pub WaitsFor : Standing → List Val → ℕ → Call → Mark → Mark → ℕ → Type 0
  WaitsFor s frame fuel c mark next handle =
      (d : Call)
      × WaitsAt g parts s frame fuel c next d
      × Asks g parts s d handle
      × (1 ≤ left_at productions next)
      × (left_at productions next ≤ left_at productions mark)

  -- what the body of the call with fuel + 1 does from the mark on
  abbrev pub MovesOn : Standing → List Val → ℕ → Call → Mark → Moved Mark → Type 0
  MovesOn s frame fuel c mark =
      Moves (GoesOn s frame fuel c mark) (WaitsFor s frame fuel c mark) (Gives g parts s (suc fuel) c) (plain_visit g parts (suc fuel) c ≡ None)

  -- What the step answers: it gains at most what the call meets.
  pub record Advances (s t : Standing) (frame : List Val) (fuel : ℕ) (c : Call) (mark : Mark) (answer : Result (Moved Mark) Full) : Type 0 where
    pub gains : Gains s t (cells_of (reach g parts (suc fuel) c))
    pub moves : IfOk answer (MovesOn t frame fuel c mark)
    pub full : OnErr answer (LacksOne t (cells_of (reach g parts (suc fuel) c)))
    pub counts : IfOk answer (CountsOn s t c)
    pub wholes : IsWhole g parts s.memo → IsWhole g parts t.memo
