-- Laws of what remembered calls mean, in the form that a store's meaning asks for.
use Rattle.std.specs.Prelude.{◌≡◌, ◌≢◌, ℕ, ◌≤◌, List, Some, Contains}
use Rattle.lrc_meaning.specs.Grammar.{Grammar}
use Rattle.lrc_order_meaning.specs.declared.Partition.{Partition}
use Rattle.lrc_visit_meaning.specs.Values.{Call, Result}
use Rattle.lrc_visit_meaning.specs.Visits.{plain_visit}
use Rattle.lrc_visit_meaning.specs.Demand.{reach}
use Rattle.lrc_store.specs.Cells.{CellTree, nil, IsClosed}
use Rattle.lrc_call_meaning.specs.Spelled.{HasSpelledLiterals, IsSpelledCall}
use Rattle.lrc_call_meaning.specs.Forms.{call_form, result_form}
use Rattle.lrc_call_meaning.specs.Reached.{cells_of}
use Rattle.lrc_call_meaning.specs.Meaning.{Allows, reached_by}

-- a call has at most one result
abbrev pub IsSingle : Type 0
IsSingle = (g : Grammar) (parts : List Partition) (call one other : CellTree) → Allows g parts call one → Allows g parts call other → one ≡ other

-- neither a call nor its result is nil
abbrev pub IsFilled : Type 0
IsFilled = (g : Grammar) (parts : List Partition) (call outcome : CellTree) → Allows g parts call outcome → (call ≢ nil) × (outcome ≢ nil)

-- what they reach leaves out nil, and holds with each cell all its parts
abbrev pub ReachesClosed : Type 0
ReachesClosed = (g : Grammar) (parts : List Partition) (call outcome : CellTree) → Allows g parts call outcome
    → (¬ Contains (reached_by g parts call outcome) nil) × IsClosed (reached_by g parts call outcome)

-- and it is the cells of all that the call meets
abbrev pub ReachesWhatIsMet : Type 0
ReachesWhatIsMet = (g : Grammar) (parts : List Partition) (call outcome : CellTree) (a : Allows g parts call outcome)
    → reached_by g parts call outcome ≡ cells_of (reach g parts a.result.height a.asked)

-- where the grammar's literals are spelled, what the visit of a spelled call gives may be remembered
abbrev pub MayBeRemembered : Type 0
MayBeRemembered = (g : Grammar) (parts : List Partition) → HasSpelledLiterals g → (fuel : ℕ) (c : Call) (r : Result) → IsSpelledCall c → c.visit ≤ 223
    → plain_visit g parts fuel c ≡ Some r → Allows g parts (call_form c) (result_form r)
