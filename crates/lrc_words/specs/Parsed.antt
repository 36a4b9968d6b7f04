-- What the matches of words that are taken hold.
use Rattle.std.specs.Prelude.{◌≡◌, ℕ, List, Some, codes, pos}
use Rattle.clap.specs.Words.{IsSignedIn, Text, found_of, matches_of, one_text, rows_of, without_minus}
use Rattle.clap.specs.declared.parser.matches.ArgMatches.{ArgMatches}
use Rattle.clap.specs.declared.parser.matches.Found.{Found}
use Rattle.lrc_words.specs.CommandLine.{AreTaken, COMMAND}

-- the argument has a number from low to high, which is read without the minus that it may have as 0
abbrev pub HasNumber : Found → Text → ℕ → ℕ → Type 0
HasNumber found name low high = (text : Text) × (one_text found name ≡ Some (without_minus text))
    × IsSignedIn (pos low) (pos high) text

-- the words are taken, and these are their matches
pub record IsParse (words : List Text) (matches : ArgMatches) : Type 0 where
  pub taken : AreTaken words
  pub rows_are : rows_of (found_of matches) ≡ matches_of COMMAND words
  pub rows : HasNumber (found_of matches) (codes "rows") 1 16777216
  pub memo : HasNumber (found_of matches) (codes "memo") 1 16777216
  pub depth : HasNumber (found_of matches) (codes "depth") 1 1000
  pub seed : HasNumber (found_of matches) (codes "seed") 0 65535
  pub nodes : HasNumber (found_of matches) (codes "nodes") 1 1000000
  pub sessions : HasNumber (found_of matches) (codes "sessions") 1 64
