-- The lines of a session: what each edit is answered, and its text without its number.
use Rattle.std.specs.Prelude.{ℕ, ℤ, pos, ◌≡◌, Bool, true, false, List, [], ◌∷◌, ◌++◌, codes, ⊤}
use Rattle.lrc_meaning.specs.Tree.{Tree, int, bool, name, node}
use Rattle.lrc_meaning.specs.Grammar.{Grammar}
use Rattle.lrc_meaning.specs.Editing.{Reply, values, bad_path, wrong_sort, too_deep, full, unopened, shown, forgot}
use Rattle.lrc_meaning.specs.Text.{reply_body}
use Rattle.lrc_session.specs.declared.fault.EditFault.{EditFault}
use Rattle.lrc_session.specs.declared.fault.EditFault.TheVariants as fault
use Rattle.lrc_run.specs.declared.reply.Outcome.{Outcome}
use Rattle.lrc_run.specs.declared.reply.Outcome.TheVariants as outcome
use Rattle.lrc_run.specs.declared.reply.Line.{Line}

-- the outcome is of the reply's kind
abbrev pub IsOutcome : Outcome → Reply → Type 0
IsOutcome outcome.Values (values vs) = ⊤
IsOutcome outcome.BadPath bad_path = ⊤
IsOutcome outcome.WrongSort wrong_sort = ⊤
IsOutcome outcome.TooDeep too_deep = ⊤
IsOutcome outcome.Full full = ⊤
IsOutcome outcome.Unopened unopened = ⊤
IsOutcome outcome.Shown (shown text) = ⊤
IsOutcome outcome.Forgot forgot = ⊤
IsOutcome _ _ = ⊥

-- the first of the values, where that is a number; else 0
abbrev pub first_number : List Tree → ℤ
first_number [] = pos 0
first_number (int n ∷ vs) = n
first_number (bool b ∷ vs) = pos 0
first_number (name n ∷ vs) = pos 0
first_number (node p kids ∷ vs) = pos 0

-- the first number of a reply, which has one only where it has values
abbrev pub number_of : Reply → ℤ
number_of (values vs) = first_number vs
number_of bad_path = pos 0
number_of wrong_sort = pos 0
number_of too_deep = pos 0
number_of full = pos 0
number_of unopened = pos 0
number_of (shown text) = pos 0
number_of forgot = pos 0

pub record IsLine (g : Grammar) (reply : Reply) (line : Line) : Type 0 where
  pub outcome : IsOutcome line.outcome reply
  pub first : line.first ≡ number_of reply
  pub body : line.body ≡ reply_body g reply

-- there is a line for each reply
abbrev pub AreLines : Grammar → List Reply → List Line → Type 0
AreLines g [] [] = ⊤
AreLines g [] (line ∷ lines) = ⊥
AreLines g (reply ∷ replies) [] = ⊥
AreLines g (reply ∷ replies) (line ∷ lines) = IsLine g reply line × AreLines g replies lines

-- the reply's line was appended
pub record HasOneMore (g : Grammar) (reply : Reply) (before after : List Line) : Type 0 where
  pub line : Line
  pub is_line : IsLine g reply line
  pub all : after ≡ before ++ line ∷ []

-- the reply of this kind; the one without values, or without text
abbrev pub reply_of : Outcome → Reply
reply_of outcome.Values = values []
reply_of outcome.BadPath = bad_path
reply_of outcome.WrongSort = wrong_sort
reply_of outcome.TooDeep = too_deep
reply_of outcome.Full = full
reply_of outcome.Unopened = unopened
reply_of outcome.Shown = shown []
reply_of outcome.Forgot = forgot

-- its text, where it is the same for each reply of this kind
abbrev pub fixed_text : Outcome → List ℕ
fixed_text outcome.Values = []
fixed_text outcome.BadPath = codes " badpath"
fixed_text outcome.WrongSort = codes " wrongsort"
fixed_text outcome.TooDeep = codes " toodeep"
fixed_text outcome.Full = codes " full"
fixed_text outcome.Unopened = codes " unopened"
fixed_text outcome.Shown = []
fixed_text outcome.Forgot = codes " forgot"

-- what an edit is answered that was refused
abbrev pub outcome_of : EditFault → Outcome
outcome_of fault.BadPath = outcome.BadPath
outcome_of fault.WrongSort = outcome.WrongSort
outcome_of fault.TooDeep = outcome.TooDeep
outcome_of fault.Full = outcome.Full

-- the text differs from reply to reply of this kind
abbrev pub has_own_text : Outcome → Bool
has_own_text outcome.Values = true
has_own_text outcome.BadPath = false
has_own_text outcome.WrongSort = false
has_own_text outcome.TooDeep = false
has_own_text outcome.Full = false
has_own_text outcome.Unopened = false
has_own_text outcome.Shown = true
has_own_text outcome.Forgot = false
