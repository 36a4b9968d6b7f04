-- The first fault of a text that denotes no job.
use Rattle.std.specs.Prelude.{◌≡◌, ℕ, ◌<◌, ◌≤◌, List, [], ◌∷◌, ◌++◌, length}
use Rattle.lrc_base.specs.declared.limits.TheConstants.{TEXT_LIMIT}
use Rattle.lrc_base.specs.declared.job.Job.{Job}
use Rattle.lrc_lex.specs.declared.Token.{Token}
use Rattle.lrc_lex.specs.Tokens.{Tokens, FirstFault}
use Rattle.lrc_parse.specs.Language.{Lang}
use Rattle.lrc_parse.specs.Reading.{Cause, nested}
use Rattle.lrc_parse.specs.Faults.{Wanting, Passing}
use Rattle.lrc_reader.specs.declared.lexeme.Lexeme.{Lexeme}
use Rattle.lrc_reader.specs.declared.fault.JobFault.{JobFault}
use Rattle.lrc_reader.specs.declared.fault.JobFault.TheVariants.{TooLong, Lex, Expected, LimitReached, NestedTooDeep, Memory}
use Rattle.lrc_reader.specs.Lexeme.{lexemes}
use Rattle.lrc_reader.specs.Limits.{passing}
use Rattle.lrc_reader.specs.Grammar.{IsJob}

-- where the first of these tokens of the text begins; its length where none is left
abbrev pub start_of : List ℕ → List Token → ℕ
start_of text [] = length text
start_of text (token ∷ tokens) = token.at

-- The tokens of the text are those before the fault and the rest, which begins at this place.
pub record Split (text : List ℕ) (at : ℕ) : Type 0 where
  pub short : length text ≤ TEXT_LIMIT
  pub before : List Token
  pub rest : List Token
  pub cut : Tokens text (before ++ rest)
  pub here : at ≡ start_of text rest

-- which lexemes stand for which job, with each limit widened by a slack
abbrev pub jobs : ℕ → Lang Lexeme Job
jobs slack = (IsJob slack).derives

-- no lexeme among these passes a limit
abbrev pub Unpassed : List Lexeme → Type 0
Unpassed lexs = (cause : Cause) (p q : List Lexeme) (t : Lexeme) → lexs ≡ p ++ t ∷ q → (IsJob 0).passes cause p t → ⊥

-- A job begins with the tokens before the place, and none with one more; or the text ends there and is no job. None of the
-- tokens before passes a limit.
abbrev pub IsExpected : List ℕ → ℕ → Type 0
IsExpected text at = (s : Split text at) × Wanting jobs (lexemes text s.before) (lexemes text s.rest) × Unpassed (lexemes text s.before)

-- the next lexeme would pass the limit of the cause behind these
abbrev pub PassesNext : Cause → List Lexeme → List Lexeme → Type 0
PassesNext cause before [] = ⊥
PassesNext cause before (t ∷ rest) = (IsJob 0).passes cause before t

-- The token at the place passes the limit of the cause. A job begins with the tokens up to it, but none within the limits.
abbrev pub IsPassed : List ℕ → Cause → ℕ → Type 0
IsPassed text cause at =
    (s : Split text at) × PassesNext cause (lexemes text s.before) (lexemes text s.rest) × Passing jobs 0 (lexemes text s.before) (lexemes text s.rest)

abbrev pub FirstTextFault : List ℕ → JobFault → Type 0
FirstTextFault text TooLong = TEXT_LIMIT < length text
FirstTextFault text (Lex fault) = (length text ≤ TEXT_LIMIT) × FirstFault text fault
FirstTextFault text (Expected at) = IsExpected text at
FirstTextFault text (LimitReached at what) = IsPassed text (passing what) at
FirstTextFault text (NestedTooDeep at) = IsPassed text nested at
FirstTextFault text Memory = ⊥
