-- Which job the bytes of a text denote.
use Rattle.std.specs.Prelude.{ℕ, ◌≤◌, List, length}
use Rattle.lrc_base.specs.declared.limits.TheConstants.{TEXT_LIMIT}
use Rattle.lrc_base.specs.declared.job.Job.{Job}
use Rattle.lrc_lex.specs.declared.Token.{Token}
use Rattle.lrc_lex.specs.Tokens.{Tokens}
use Rattle.lrc_reader.specs.Lexeme.{lexemes}
use Rattle.lrc_reader.specs.Grammar.{IsJob}

-- at most 16,777,216 bytes, whose tokens stand for the job
pub record Denotes (bytes : List ℕ) (job : Job) : Type 0 where
  pub short : length bytes ≤ TEXT_LIMIT
  pub found : List Token
  pub cut : Tokens bytes found
  pub derived : (IsJob 0).derives (lexemes bytes found) job
