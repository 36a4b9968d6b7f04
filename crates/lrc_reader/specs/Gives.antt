-- What a function that reads answers: what a reading gives, unless memory ran out.
use Rattle.std.specs.Prelude.{◌≡◌, ◌≢◌, ℕ, List, Result, Ok, Err}
use Rattle.lrc_parse.specs.Reading.{Cause, expected, nested, Reading, took, stops}
use Rattle.lrc_reader.specs.declared.lexeme.Lexeme.{Lexeme}
use Rattle.lrc_reader.specs.declared.fault.JobFault.{JobFault}
use Rattle.lrc_reader.specs.declared.fault.JobFault.TheVariants as fault
use Rattle.lrc_reader.specs.declared.fault.Stop.{Stop}
use Rattle.lrc_reader.specs.declared.fault.Stop.TheVariants as stop
use Rattle.lrc_reader.specs.Limits.{passing}

-- the cause of a stop other than want of memory
abbrev pub cause_of : Stop → Cause
cause_of stop.Expected = expected
cause_of stop.NestedTooDeep = nested
cause_of (stop.LimitReached what) = passing what
cause_of stop.Memory = expected

-- what was answered, seen by view, with the lexemes that are left
abbrev pub GivesAs : {A B : Type 0} → (A → B) → Result A Stop → List Lexeme → Reading Lexeme B → Type 0
GivesAs view (Ok x) rest read = read ≡ took (view x) rest
GivesAs view (Err why) rest read = why ≢ stop.Memory → read ≡ stops (cause_of why) rest

abbrev pub Gives : {A : Type 0} → Result A Stop → List Lexeme → Reading Lexeme A → Type 0
Gives = GivesAs (λ x. x)

-- the fault of a job where its reading stops at this place
abbrev pub fault_at : Stop → ℕ → JobFault
fault_at stop.Expected at = fault.Expected at
fault_at stop.NestedTooDeep at = fault.NestedTooDeep at
fault_at (stop.LimitReached what) at = fault.LimitReached at what
fault_at stop.Memory at = fault.Memory
