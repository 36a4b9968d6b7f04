-- Why a job is refused, in the order in which faults are looked for: its text, its acceptance, for a run the rows of its
-- sessions, with counts their number, and then the ordered test.
use Rattle.std.specs.Prelude.{◌≡◌, ◌≢◌, ◌⊎◌, ℕ, ◌*◌, ◌<◌, ◌≤◌, Bool, true, false, List, [], length, Some, Ok, slice_get}
use Rattle.lrc_base.specs.declared.limits.TheConstants.{ROW_LIMIT}
use Rattle.lrc_base.specs.declared.job.Job.{Job}
use Rattle.lrc_base.specs.declared.grammar.Production.{Production}
use Rattle.lrc_base.specs.declared.signature.Occurrence.{Occurrence}
use Rattle.lrc_meaning.specs.Grammar.{Grammar}
use Rattle.lrc_meaning.specs.Signature.{signature_of}
use Rattle.lrc_order_meaning.specs.Ordered.{IsInducedCycle, IsExtendedCycle}
use Rattle.lrc_reader.specs.Denotes.{Denotes}
use Rattle.lrc_words.specs.declared.command.Command.{Command}
use Rattle.lrc_words.specs.declared.command.Verb.{Verb}
use Rattle.lrc_words.specs.declared.command.Verb.TheVariants as verb
use Rattle.lrc_reader.specs.declared.fault.JobFault.{JobFault}
use Rattle.lrc_reader.specs.declared.fault.JobFault.TheVariants as text
use Rattle.lrc_job.specs.declared.fault.AcceptFault.{AcceptFault}
use Rattle.lrc_job.specs.declared.fault.AcceptFault.TheVariants as accept
use Rattle.lrc_reader.specs.Faults.{FirstTextFault}
use Rattle.lrc_job.specs.Job.{Session, HasSessions, IsFaultOf}
use Rattle.lrc_failures.specs.declared.failure.Cycle.{Cycle}
use Rattle.lrc_failures.specs.declared.failure.Failure.{Failure}
use Rattle.lrc_failures.specs.declared.failure.Failure.TheVariants as f

-- the most rows of all sessions together
abbrev pub row_limit : ℕ
row_limit = ROW_LIMIT

-- the production and the occurrence of these numbers, by their names
pub record IsNamed (g : Grammar) (production occurrence : ℕ) (cycle : Cycle) : Type 0 where
  pub at : Production
  pub is_there : slice_get g.prods production ≡ Some at
  pub production_name : cycle.production ≡ at.name
  pub found : Occurrence
  pub is_found : slice_get (signature_of g.sorts at).occurrences occurrence ≡ Some found
  pub owner : cycle.owner ≡ found.owner
  pub occurrence_name : cycle.occurrence ≡ found.name

-- an extended cycle, or an induced one, by the production's and the occurrence's numbers
abbrev pub IsCycleAt : Bool → Grammar → ℕ → ℕ → Type 0
IsCycleAt true g production occurrence = IsExtendedCycle g [] production occurrence
IsCycleAt false g production occurrence = IsInducedCycle g [] production occurrence

-- the cycle that the ordered test tells of the grammar
pub record IsCycle (g : Grammar) (cycle : Cycle) : Type 0 where
  pub production : ℕ
  pub occurrence : ℕ
  pub found : IsCycleAt cycle.is_extended g production occurrence
  pub named : IsNamed g production occurrence cycle

-- the numbers are those of a production and of an occurrence of it
pub record IsPlaced (g : Grammar) (production occurrence : ℕ) : Type 0 where
  pub at : Production
  pub is_there : slice_get g.prods production ≡ Some at
  pub within : occurrence < length (signature_of g.sorts at).occurrences

-- the grammar is not ordered, or memory ran out
pub data IsUnordered (g : Grammar) : Failure → Type 0 where
  has_cycle : (cycle : Cycle) → IsCycle g cycle → IsUnordered g (f.NotOrdered cycle)
  has_no_memory : IsUnordered g f.Memory

-- the command reads a job; `gen` makes its own
abbrev pub ReadsJob : Verb → Type 0
ReadsJob v = (v ≡ verb.Run) ⊎ ((v ≡ verb.Solo) ⊎ ((v ≡ verb.Check) ⊎ (v ≡ verb.Plan)))

-- the command reads nothing
abbrev pub ReadsNothing : Verb → Type 0
ReadsNothing v = v ≡ verb.Gen

-- the command runs the sessions of a job
abbrev pub RunsSessions : Verb → Type 0
RunsSessions v = (v ≡ verb.Run) ⊎ ((v ≡ verb.Solo) ⊎ (v ≡ verb.Gen))

-- it runs so many
abbrev pub TakesSessions : Verb → ℕ → Type 0
TakesSessions v sessions = v ≡ verb.Solo → sessions ≡ 1

-- what comes before the ordered test is in order: for a run the rows of all sessions, and with counts their number
pub record KeepsRows (command : Command) (sessions : ℕ) : Type 0 where
  pub rows : RunsSessions command.verb → command.rows * sessions ≤ row_limit
  pub number : TakesSessions command.verb sessions

-- Why a command does not take so many sessions.
pub data IsCountFault (command : Command) (sessions : ℕ) : Failure → Type 0 where
  too_many_rows : RunsSessions command.verb → row_limit < command.rows * sessions → IsCountFault command sessions f.TooManyRows
  not_one_session : command.verb ≡ verb.Solo → command.rows * sessions ≤ row_limit → sessions ≢ 1 → IsCountFault command sessions f.NotOneSession

-- Why a job is refused.
pub data IsJobCause (command : Command) (job : Job) : Failure → Type 0 where
  not_accepted : (fault : AcceptFault) → fault ≢ accept.Memory → IsFaultOf job fault → IsJobCause command job (f.Accept fault)
  other_count : (g : Grammar) (sessions : List Session) (failure : Failure) → HasSessions job g (Ok sessions) → IsCountFault command (length sessions) failure → IsJobCause command job failure
  not_ordered : (g : Grammar) (sessions : List Session) (cycle : Cycle) → HasSessions job g (Ok sessions) → KeepsRows command (length sessions) → IsCycle g cycle
      → IsJobCause command job (f.NotOrdered cycle)
  no_memory : IsJobCause command job f.Memory

-- Why the input is refused.
pub data IsCause (command : Command) (input : List ℕ) : Failure → Type 0 where
  no_job : (fault : JobFault) → fault ≢ text.Memory → FirstTextFault input fault → ((job : Job) → ¬ Denotes input job) → IsCause command input (f.Text fault)
  of_job : (job : Job) (failure : Failure) → Denotes input job → IsJobCause command job failure → IsCause command input failure
  reads_no_memory : IsCause command input f.Memory
