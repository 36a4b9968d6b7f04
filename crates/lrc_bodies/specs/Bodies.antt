-- Bodies of visits over a store: what handles stand for, and where a body is in its actions.
use Rattle.std.specs.Prelude.{◌≡◌, ℕ, ◌-◌, ◌*◌, ◌≤◌, max, List, [], flat_map, length, Some, Contains, slice_index_or}
use Rattle.lrc_base.specs.declared.grammar.Production.{Production}
use Rattle.lrc_meaning.specs.Grammar.{Grammar}
use Rattle.lrc_grammar.specs.Grammar.{grammar_of}
use Rattle.lrc_order_meaning.specs.declared.Partition.{Partition}
use Rattle.lrc_plan_meaning.specs.Sound.{IsSound}
use Rattle.lrc_visit_meaning.specs.Values.{Call, Result}
use Rattle.lrc_visit_meaning.specs.Visits.{plain_visit}
use Rattle.lrc_visit_meaning.specs.Demand.{Met, reach}
use Rattle.lrc_store.specs.Cells.{IsWithin}
use Rattle.lrc_store.specs.Standing.{Standing, Stands, Told}
use Rattle.lrc_call_meaning.specs.Forms.{call_form, result_form}
use Rattle.lrc_call_meaning.specs.Reached.{cells_of}
use Rattle.lrc_call_meaning.specs.Spelled.{IsSpelledCall, IsSpelledResult}
use Rattle.lrc_eval.specs.declared.values.Val.{Val}
use Rattle.lrc_functions.specs.declared.function.Function.{Function}
use Rattle.lrc_functions.specs.declared.functions.Functions.{Functions}
use Rattle.lrc_frames.specs.Frames.{Run, RunsAt}
use Rattle.lrc_bodies.specs.declared.mark.Mark.{Mark}
use Rattle.lrc_bodies.specs.declared.remembered.VisitMeaning.{VisitMeaning}
use Rattle.lrc_bodies.specs.Points.{Point, AtVisit}
use Rattle.lrc_bodies.specs.Counting.{AreMade}

-- how many actions the body at a mark has left
abbrev pub no_function : Function
no_function = record { inherited = []; earlier = []; operations = []; synthesised = []; later = [] }

abbrev pub function_at : List (List Function) → Mark → Function
function_at productions mark = slice_index_or (slice_index_or productions mark.body.production []) (mark.body.visit - 1) no_function

abbrev pub left_at : List (List Function) → Mark → ℕ
left_at productions mark = length (function_at productions mark).operations - mark.at

-- no body has more
abbrev pub most_left : List (List Function) → ℕ
most_left productions = length (flat_map (λ functions. flat_map (λ (f : Function). f.operations) functions) productions)

-- the frame has room for the items of each production
abbrev pub HasRoom : List ℕ → List Val → Type 0
HasRoom counts frame = (n : ℕ) → Contains counts n → n ≤ length frame

-- the room on a stack by which a term of so many levels is put
abbrev pub stack_room : ℕ → ℕ
stack_room depth = max 1 (8 * depth)

-- what is remembered means the visits of the functions' plan
abbrev pub IsMeaningOf : Functions → VisitMeaning → Type 0
IsMeaningOf functions meaning = (grammar_of meaning.grammar ≡ grammar_of functions.plan.grammar) × (meaning.parts ≡ functions.plan.parts)

module _ (g : Grammar) (parts : List Partition) where
  -- the visit sequences of each production are sound
  abbrev pub AllSound : Type 0
  AllSound = (p : Production) → Contains g.prods p → IsSound g.sorts parts p

  -- The handle stands for the call, whose names are spelled.
  pub record Asks (s : Standing) (c : Call) (handle : ℕ) : Type 0 where
    pub sound : AllSound
    pub spelled : IsSpelledCall c
    pub stands : Stands s handle (call_form c)

  -- The handle stands for the result of the call with so much fuel, all that the call meets is in the store for good, and the
  -- result is remembered.
  pub record Gives (s : Standing) (fuel : ℕ) (c : Call) (handle : ℕ) : Type 0 where
    pub outcome : Result
    pub is_result : plain_visit g parts fuel c ≡ Some outcome
    pub spelled : IsSpelledResult outcome
    pub stands : Stands s handle (result_form outcome)
    pub reached : Told s.seen (IsWithin (cells_of (reach g parts fuel c)))
    pub spelled_call : IsSpelledCall c
    pub remembered : Told s.memo (λ pairs. Contains pairs (call_form c, result_form outcome))

  -- A body of the call, with fuel + 1, runs at the mark over the frame.
  pub record Runs (s : Standing) (frame : List Val) (fuel : ℕ) (c : Call) (mark : Mark) : Type 0 where
    pub asks : Asks s c mark.call.0
    pub run : Run
    pub met : List Met
    pub point : Point g parts fuel c mark.body.production run mark.at mark.height met
    pub visit : mark.body.visit ≡ c.visit
    pub runs : RunsAt g parts s frame mark.body run
    pub seen : Told s.seen (IsWithin (cells_of met))
    pub made : Told s.memo (AreMade g parts met)
    pub low : mark.height ≤ fuel

  -- It waits there for the call of a visit.
  pub record WaitsAt (s : Standing) (frame : List Val) (fuel : ℕ) (c : Call) (mark : Mark) (d : Call) : Type 0 where
    pub asks : Asks s c mark.call.0
    pub run : Run
    pub met : List Met
    pub symbol : ℕ
    pub visit_there : ℕ
    pub stands : AtVisit g parts fuel c mark.body.production run mark.at mark.height met symbol visit_there d
    pub visit : mark.body.visit ≡ c.visit
    pub runs : RunsAt g parts s frame mark.body run
    pub seen : Told s.seen (IsWithin (cells_of met))
    pub made : Told s.memo (AreMade g parts met)
    pub low : mark.height ≤ fuel
