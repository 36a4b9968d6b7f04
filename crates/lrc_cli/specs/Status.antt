-- What each status of the program says.
use Rattle.std.specs.Prelude.{◌≡◌, ℕ, ◌+◌, ◌*◌, ◌<◌, ◌≤◌, Bool, true, false, IsTrue, List, [], length, Option, Some, None, Ok, ⊤, String}
use Rattle.std.specs.declared.alloc.Global.{Global}
use Rattle.std.specs.Io.KnownBytes.{Appends, Keeps}
use Rattle.lrc_base.specs.declared.limits.TheConstants.{TEXT_LIMIT}
use Rattle.lrc_base.specs.declared.job.Job.{Job}
use Rattle.lrc_meaning.specs.Grammar.{Grammar}
use Rattle.lrc_order_meaning.specs.Ordered.{IsOrdered}
use Rattle.lrc_reader.specs.Denotes.{Denotes}
use Rattle.lrc_job.specs.Job.{Session, HasSessions}
use Rattle.lrc_outside.specs.Count.{Rose}
use Rattle.lrc_outside.specs.Known.{TakesUpTo, AppendsPart}
use Rattle.lrc_words.specs.declared.command.Command.{Command}
use Rattle.lrc_words.specs.declared.command.Verb.{Verb}
use Rattle.lrc_words.specs.declared.command.Verb.TheVariants as verb
use Rattle.lrc_words.specs.CommandLine.{Says, IsWithinRanges, texts}
use Rattle.lrc_failures.specs.declared.failure.Failure.{Failure}
use Rattle.lrc_failures.specs.declared.failure.Failure.TheVariants as f
use Rattle.lrc_cli.specs.Headline.{IsOutputOf}
use Rattle.lrc_cli.specs.Causes.{row_limit, ReadsJob, ReadsNothing, KeepsRows, IsCause}

-- the most bytes that are read: one more than a job has
abbrev pub input_limit : ℕ
input_limit = 1 + TEXT_LIMIT

-- the input is all the bytes that a source had left, where it tells them, and it is at its end
abbrev pub IsReadWhole : Option (List ℕ) → Option (List ℕ) → List ℕ → Type 0
IsReadWhole None after input = ⊤
IsReadWhole (Some bytes) after input = (input ≡ bytes) × (after ≡ Some [])

-- what a command has read: all that the source had left, and it is at its end; `gen` reads nothing
abbrev pub HasRead : Verb → Option (List ℕ) → Option (List ℕ) → List ℕ → Type 0
HasRead verb.Run left left' input = IsReadWhole left left' input
HasRead verb.Solo left left' input = IsReadWhole left left' input
HasRead verb.Check left left' input = IsReadWhole left left' input
HasRead verb.Plan left left' input = IsReadWhole left left' input
HasRead verb.Gen left left' input = Keeps left left'

-- the text is what the command prints for what was read
abbrev pub HasOutput : Command → Option (List ℕ) → Option (List ℕ) → List ℕ → Type 0
HasOutput command left left' text = (input : List ℕ) × HasRead command.verb left left' input × IsOutputOf command input text

-- Status 0: the source was read to its end, and the sink gained the text that the words ask for of what was read.
pub record Done (words : List (String Global)) (left left' held held' : Option (List ℕ)) : Type 0 where
  pub command : Command
  pub says : Says (texts words) command
  pub input : List ℕ
  pub text : List ℕ
  pub read : HasRead command.verb left left' input
  pub output : IsOutputOf command input text
  pub written : Appends held held' text

-- Status 4: as with status 0, but the sink gained a part of the text only, from its front.
pub record Unwritten (words : List (String Global)) (left left' held held' : Option (List ℕ)) : Type 0 where
  pub command : Command
  pub says : Says (texts words) command
  pub input : List ℕ
  pub text : List ℕ
  pub read : HasRead command.verb left left' input
  pub output : IsOutputOf command input text
  pub part : AppendsPart held held' text

-- Statuses 5 and 6: what was read, the whole or one byte more than a job has, is refused for a cause; or nothing was read, and the
-- sessions of the generated job have too many rows.
pub data IsRefused (command : Command) (left left' : Option (List ℕ)) : Failure → Type 0 where
  read : (input : List ℕ) (failure : Failure) → ReadsJob command.verb → TakesUpTo input_limit left left' input → IsCause command input failure → IsRefused command left left' failure
  generates : ReadsNothing command.verb → Keeps left left' → row_limit < command.rows * command.sessions → IsRefused command left left' f.TooManyRows

-- the fault is one of the input, and not of the words, of reading, of writing, or of memory
abbrev pub is_refusal : Failure → Bool
is_refusal f.Usage = false
is_refusal f.Read = false
is_refusal f.Write = false
is_refusal (f.Text fault) = true
is_refusal (f.Accept fault) = true
is_refusal f.TooManyRows = true
is_refusal f.NotOneSession = true
is_refusal (f.NotOrdered cycle) = true
is_refusal f.Memory = false

-- Why a command has no output: the source failed, it is refused, or memory ran out.
pub data IsHindrance (command : Command) (left left' : Option (List ℕ)) (faults faults' : ℕ) : Failure → Type 0 where
  read_fails : Rose faults faults' → IsHindrance command left left' faults faults' f.Read
  is_refused : (failure : Failure) → IsTrue (is_refusal failure) → IsRefused command left left' failure → IsHindrance command left left' faults faults' failure
  lacks_memory : IsHindrance command left left' faults faults' f.Memory

pub record Refused (words : List (String Global)) (left left' : Option (List ℕ)) (failure : Failure) : Type 0 where
  pub command : Command
  pub says : Says (texts words) command
  pub within : IsWithinRanges command
  pub refused : IsRefused command left left' failure

-- the job is accepted, its rows and sessions are in order for the command, and its grammar is ordered
pub record CanBeDone (command : Command) (job : Job) : Type 0 where
  pub grammar : Grammar
  pub sessions : List Session
  pub accepted : HasSessions job grammar (Ok sessions)
  pub rows : KeepsRows command (length sessions)
  pub ordered : IsOrdered grammar []

-- The command has something to print: the source tells its bytes, and they denote a job that can be done; or, for `gen`, there are
-- not too many rows.
pub data HoldsJob (command : Command) (left : Option (List ℕ)) : Type 0 where
  told : (bytes : List ℕ) (job : Job) → ReadsJob command.verb → left ≡ Some bytes → Denotes bytes job → CanBeDone command job → HoldsJob command left
  generates_job : ReadsNothing command.verb → command.rows * command.sessions ≤ row_limit → HoldsJob command left
