-- Laws of what visits meet, and of its cells.
use Rattle.std.specs.Prelude.{◌≡◌, ◌≢◌, ℕ, ◌<◌, ◌≤◌, ◌⊎◌, ◌↔◌, IsTrue, List, Some, Contains}
use Rattle.lrc_base.specs.declared.grammar.Kind.TheVariants as k
use Rattle.lrc_meaning.specs.Tree.{Tree, fits}
use Rattle.lrc_meaning.specs.Grammar.{Grammar}
use Rattle.lrc_meaning.specs.Limits.{IsWithinLimits}
use Rattle.lrc_order_meaning.specs.declared.Partition.{Partition}
use Rattle.lrc_order_meaning.specs.Ordered.{Partitions, HasOrder}
use Rattle.lrc_visit_meaning.specs.Values.{Call, Result, root_call}
use Rattle.lrc_visit_meaning.specs.Visits.{plain_visit}
use Rattle.lrc_visit_meaning.specs.Demand.{Met, called, answered, reach}
use Rattle.lrc_store.specs.Cells.{CellTree, nil, IsClosed, IsWithin}
use Rattle.lrc_store.specs.Standing.{HasSize}
use Rattle.lrc_call_meaning.specs.Spelled.{HasSpelledLiterals, IsSpelledCall, IsSpelledResult, IsSpelledMet}
use Rattle.lrc_call_meaning.specs.Forms.{call_form}
use Rattle.lrc_call_meaning.specs.Reached.{cells_of, calls_in, HaveSame, IsDemand}

-- the cells of what was met hold with each cell its parts, and leave out nil
abbrev pub CellsAreClosed : Type 0
CellsAreClosed = (ms : List Met) → IsClosed (cells_of ms) × ¬ Contains (cells_of ms) nil

-- another call has a lower result than this one of a call, and all that it meets the call meets too
pub record IsNested (g : Grammar) (parts : List Partition) (fuel : ℕ) (c : Call) (r : Result) (d : Call) : Type 0 where
  pub other : d ≢ c
  pub result : Result
  pub is_result : plain_visit g parts fuel d ≡ Some result
  pub lower : result.height < r.height
  pub within : (x : Met) → Contains (reach g parts fuel d) x → Contains (reach g parts fuel c) x

-- a call that is met in the visit of a call with a result is that call, or is nested in it
abbrev pub NestedIsLower : Type 0
NestedIsLower = (g : Grammar) (parts : List Partition) (fuel : ℕ) (c : Call) (r : Result) → plain_visit g parts fuel c ≡ Some r
    → (d : Call) → Contains (reach g parts fuel c) (called d) → (d ≡ c) ⊎ IsNested g parts fuel c r d

-- the result is that of a call that is met
pub record IsOfCall (g : Grammar) (parts : List Partition) (fuel : ℕ) (c : Call) (r : Result) : Type 0 where
  pub call : Call
  pub is_met : Contains (reach g parts fuel c) (called call)
  pub is_result : plain_visit g parts fuel call ≡ Some r

-- each result that is met in a visit, whether that has a result or not, is that of a call that is met
abbrev pub ResultsAreOfCalls : Type 0
ResultsAreOfCalls = (g : Grammar) (parts : List Partition) (fuel : ℕ) (c : Call) (r : Result) → Contains (reach g parts fuel c) (answered r) → IsOfCall g parts fuel c r

-- the number of the call's visit fits a tag
abbrev pub HasTag : Call → Type 0
HasTag c = (1 ≤ c.visit) × (c.visit ≤ 223)

-- and so does that of each call that is met
abbrev pub HaveTags : List Met → Type 0
HaveTags ms = (c : Call) → Contains ms (called c) → HasTag c

-- this is the cell of a call that is met
abbrev pub IsCallMet : List Met → CellTree → Type 0
IsCallMet ms cell = (c : Call) × Contains ms (called c) × (cell ≡ call_form c)

-- so the cells of calls among those of what was met are just those of the calls that are met
abbrev pub CallsAmongCells : Type 0
CallsAmongCells = (ms : List Met) → HaveTags ms → (cell : CellTree) → Contains (calls_in (cells_of ms)) cell ↔ IsCallMet ms cell

-- over an ordered grammar within the limits all calls that are met in a call with a tag have tags
abbrev pub ReachHasTags : Type 0
ReachHasTags = (g : Grammar) (found : Partitions) → HasOrder g found → IsWithinLimits g → (fuel : ℕ) (c : Call) → HasTag c → HaveTags (reach g found.sorts fuel c)

-- over an ordered grammar the cells that the root's visit of a tree meets are the tree's demand, where the tree is of the
-- start sort
abbrev pub DemandIsCells : Type 0
DemandIsCells = (g : Grammar) (found : Partitions) → HasOrder g found → (limit : ℕ) (t : Tree) → IsTrue (fits g.prods t (k.Sort g.start))
    → IsDemand g found.sorts limit t (cells_of (reach g found.sorts limit (root_call t)))

-- where a grammar's literals are spelled, all that a spelled call meets is spelled
abbrev pub ReachIsSpelled : Type 0
ReachIsSpelled = (g : Grammar) (parts : List Partition) → HasSpelledLiterals g → (fuel : ℕ) (c : Call) → IsSpelledCall c
    → (x : Met) → Contains (reach g parts fuel c) x → IsSpelledMet x

-- and so is its result
abbrev pub ResultsAreSpelled : Type 0
ResultsAreSpelled = (g : Grammar) (parts : List Partition) → HasSpelledLiterals g → (fuel : ℕ) (c : Call) (r : Result) → IsSpelledCall c
    → plain_visit g parts fuel c ≡ Some r → IsSpelledResult r

-- each list of cells has a size
abbrev pub SizesExist : Type 0
SizesExist = (cells : List CellTree) → (n : ℕ) × HasSize cells n

-- and one only
abbrev pub SizesAreUnique : Type 0
SizesAreUnique = (cells : List CellTree) (m n : ℕ) → HasSize cells m → HasSize cells n → m ≡ n

-- lists with the same members have the same size
abbrev pub SizesAgree : Type 0
SizesAgree = (cells others : List CellTree) (n : ℕ) → HaveSame cells others → HasSize cells n → HasSize others n

-- and a list whose members another has is of no greater size
abbrev pub SizesGrow : Type 0
SizesGrow = (cells others : List CellTree) (m n : ℕ) → IsWithin cells others → HasSize cells m → HasSize others n → m ≤ n
