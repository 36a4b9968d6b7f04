-- The statuses and the lines of faults.
use Rattle.std.specs.Prelude.{◌≡◌, ◌⊎◌, ℕ, List, [], ◌∷◌, Option, Some, None, Bool, true, false, codes, decimal}
use Rattle.lrc_lex.specs.declared.LexFault.{LexFault}
use Rattle.lrc_lex.specs.declared.LexFault.TheVariants as lex
use Rattle.lrc_reader.specs.declared.fault.JobFault.{JobFault}
use Rattle.lrc_reader.specs.declared.fault.JobFault.TheVariants as text
use Rattle.lrc_reader.specs.declared.fault.Limit.{Limit}
use Rattle.lrc_reader.specs.declared.fault.Limit.TheVariants as limit
use Rattle.lrc_check.specs.declared.fault.GrammarKind.{GrammarKind}
use Rattle.lrc_check.specs.declared.fault.GrammarKind.TheVariants as kind
use Rattle.lrc_check.specs.declared.fault.GrammarFault.{GrammarFault}
use Rattle.lrc_job.specs.declared.term_fault.TermFault.{TermFault}
use Rattle.lrc_job.specs.declared.term_fault.TermFault.TheVariants as term
use Rattle.lrc_job.specs.declared.fault.AcceptFault.{AcceptFault}
use Rattle.lrc_job.specs.declared.fault.AcceptFault.TheVariants as accept
use Rattle.lrc_failures.specs.Pieces.{joined}
use Rattle.lrc_failures.specs.declared.failure.Cycle.{Cycle}
use Rattle.lrc_failures.specs.declared.failure.Failure.{Failure}
use Rattle.lrc_failures.specs.declared.failure.Failure.TheVariants as f

-- the status with which the program ends
abbrev pub status_of : Failure → ℕ
status_of f.Usage = 2
status_of f.Read = 3
status_of f.Write = 4
status_of (f.Text fault) = 5
status_of (f.Accept fault) = 5
status_of f.TooManyRows = 5
status_of f.NotOneSession = 5
status_of (f.NotOrdered cycle) = 6
status_of f.Memory = 7

abbrev pub line_feed : List ℕ
line_feed = 10 ∷ []

-- the parts of a line
abbrev pub Parts : Type 0
Parts = List (List ℕ)

abbrev pub alone : List ℕ → Parts
alone words = words ∷ (line_feed ∷ [])

-- what is wrong with a job
abbrev pub of_job : List ℕ → Parts
of_job words = codes "lrc: job: " ∷ (words ∷ (line_feed ∷ []))

abbrev pub at_place : List ℕ → ℕ → Parts
at_place words at = codes "lrc: job: " ∷ (words ∷ (codes " at " ∷ (decimal at ∷ (line_feed ∷ []))))

abbrev pub lex_parts : LexFault → Parts
lex_parts (lex.NotUtf8 at) = at_place (codes "not UTF-8") at
lex_parts (lex.BadChar at) = at_place (codes "bad character") at
lex_parts (lex.NumberRange at) = at_place (codes "number out of range") at
lex_parts (lex.NameLong at) = at_place (codes "name too long") at
lex_parts lex.Memory = alone (codes "lrc: no memory")

abbrev pub too_many : Limit → List ℕ
too_many limit.Sorts = codes "too many sorts"
too_many limit.Attributes = codes "too many attributes"
too_many limit.Productions = codes "too many productions"
too_many limit.Children = codes "too many children"
too_many limit.Locals = codes "too many locals"
too_many limit.Nodes = codes "too many nodes"
too_many limit.Sessions = codes "too many sessions"
too_many limit.Edits = codes "too many edits"

abbrev pub text_parts : JobFault → Parts
text_parts text.TooLong = of_job (codes "longer than 16777216 bytes")
text_parts (text.Lex fault) = lex_parts fault
text_parts (text.Expected at) = at_place (codes "unexpected") at
text_parts (text.LimitReached at what) = at_place (too_many what) at
text_parts (text.NestedTooDeep at) = at_place (codes "nested too deep") at
text_parts text.Memory = alone (codes "lrc: no memory")

abbrev pub wrong_in : GrammarKind → List ℕ
wrong_in kind.Twice = codes "twice in "
wrong_in kind.Unknown = codes "unknown in "
wrong_in kind.MissingEquation = codes "missing equation in "
wrong_in kind.DoubleEquation = codes "double equation in "
wrong_in kind.NotNormal = codes "not normal in "
wrong_in kind.WrongKind = codes "wrong kind in "
wrong_in kind.StartInherits = codes "start inherits in "
wrong_in kind.Memory = codes "no memory in "

-- a name, behind its owner and a dot where it has one, and the line feed
abbrev pub owned : Option (List ℕ) → List ℕ → Parts
owned None called = called ∷ (line_feed ∷ [])
owned (Some owner) called = owner ∷ (codes "." ∷ (called ∷ (line_feed ∷ [])))

abbrev pub grammar_parts : GrammarFault → Parts
grammar_parts fault = codes "lrc: job: " ∷ (wrong_in fault.kind ∷ (fault.place ∷ (codes ": " ∷ owned fault.owner fault.name)))

abbrev pub in_edit : ℕ → ℕ → Parts → Parts
in_edit session edit rest = codes "lrc: job: session " ∷ (decimal session ∷ (codes " edit " ∷ (decimal edit ∷ rest)))

abbrev pub term_parts : ℕ → ℕ → TermFault → Parts
term_parts session edit (term.UnknownProduction p) = in_edit session edit (codes ": unknown production " ∷ (p ∷ (line_feed ∷ [])))
term_parts session edit (term.Arity p) = in_edit session edit (codes ": wrong number of children of " ∷ (p ∷ (line_feed ∷ [])))
term_parts session edit (term.KidKind p i) =
    in_edit session edit (codes ": wrong kind of child " ∷ (decimal i ∷ (codes " of " ∷ (p ∷ (line_feed ∷ [])))))
term_parts session edit term.Memory = in_edit session edit (codes ": no memory" ∷ (line_feed ∷ []))

abbrev pub accept_parts : AcceptFault → Parts
accept_parts (accept.Grammar fault) = grammar_parts fault
accept_parts (accept.Term session edit fault) = term_parts session edit fault
accept_parts (accept.NotStart session) = codes "lrc: job: session " ∷ (decimal session ∷ (codes ": not the start sort" ∷ (line_feed ∷ [])))
accept_parts accept.Memory = alone (codes "lrc: no memory")

abbrev pub cycle_words : Bool → List ℕ
cycle_words true = codes "lrc: not ordered: extended "
cycle_words false = codes "lrc: not ordered: induced "

abbrev pub cycle_parts : Cycle → Parts
cycle_parts cycle = cycle_words cycle.is_extended ∷ (cycle.production ∷ (codes " " ∷ owned cycle.owner cycle.occurrence))

abbrev pub usage : List ℕ
usage = codes "usage: lrc run|solo|check|plan|gen [--rows N] [--memo N] [--depth N] [--seed N] [--nodes N] [--sessions N]"

-- the parts of the line that is printed for a fault
abbrev pub parts_of : Failure → Parts
parts_of f.Usage = alone usage
parts_of f.Read = alone (codes "lrc: read fault")
parts_of f.Write = alone (codes "lrc: write fault")
parts_of (f.Text fault) = text_parts fault
parts_of (f.Accept fault) = accept_parts fault
parts_of f.TooManyRows = of_job (codes "too many rows")
parts_of f.NotOneSession = of_job (codes "solo wants one session")
parts_of (f.NotOrdered cycle) = cycle_parts cycle
parts_of f.Memory = alone (codes "lrc: no memory")

-- the line of a fault
abbrev pub line_of : Failure → List ℕ
line_of failure = joined (parts_of failure)

-- the statuses that there are
unfoldable pub IsStatus : ℕ → Type 0
IsStatus n = (n ≡ 0) ⊎ ((failure : Failure) × (n ≡ status_of failure))
