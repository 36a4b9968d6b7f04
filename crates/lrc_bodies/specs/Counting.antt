-- Which calls a visit makes, and memos that hold, with each call, the calls that its visit makes.
use Rattle.std.specs.Prelude.{◌≡◌, ℕ, List, Option, Some, Contains}
use Rattle.lrc_meaning.specs.Grammar.{Grammar}
use Rattle.lrc_order_meaning.specs.declared.Partition.{Partition}
use Rattle.lrc_visit_meaning.specs.Values.{Call, Result}
use Rattle.lrc_visit_meaning.specs.Visits.{plain_visit}
use Rattle.lrc_visit_meaning.specs.Demand.{Met, called, reach}
use Rattle.lrc_store.specs.Standing.{IsRemembered, Told}
use Rattle.lrc_call_meaning.specs.Forms.{call_form, result_form}
use Rattle.lrc_call_meaning.specs.Spelled.{IsSpelledCall}
use Rattle.lrc_machine.specs.Counts.{Pairs}

module _ (g : Grammar) (parts : List Partition) where
  -- A visit of the first call with so much fuel makes the second, the first itself among them.
  abbrev pub MeetsCall : ℕ → Call → Call → Type 0
  MeetsCall fuel c d = Contains (reach g parts fuel c) (called d)

  -- with each call that is remembered with its result, those are that its visit makes
  abbrev pub IsWholeIn : Pairs → Type 0
  IsWholeIn pairs =
      (c : Call) (r : Result) → Contains pairs (call_form c, result_form r) → IsSpelledCall c → plain_visit g parts r.height c ≡ Some r
      → (d : Call) → MeetsCall r.height c d → IsRemembered pairs (call_form d)

  -- The memo is whole, where it is told.
  abbrev pub IsWhole : Option Pairs → Type 0
  IsWhole memo = Told memo IsWholeIn

  -- The call is made by the visit of a call that is remembered with its result.
  pub record IsMade (pairs : Pairs) (d : Call) : Type 0 where
    pub call : Call
    pub result : Result
    pub spelled : IsSpelledCall call
    pub is_result : plain_visit g parts result.height call ≡ Some result
    pub remembered : Contains pairs (call_form call, result_form result)
    pub makes : MeetsCall result.height call d

  -- so is each call that was met
  abbrev pub AreMade : List Met → Pairs → Type 0
  AreMade met pairs = (d : Call) → Contains met (called d) → IsMade pairs d
