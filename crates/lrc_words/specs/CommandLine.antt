-- The command line of `lrc`: a word for what is to be done, and options that set one whole number
-- each.
use Rattle.std.specs.Prelude.{◌≡◌, ◌≤◌, ℕ, false, true, List, [], ◌∷◌, map, Option, Some, None, codes, pos, option_map}
use Rattle.std.specs.Prelude.{option_and_then, if◌then◌else◌, String, string_bytes}
use Rattle.std.specs.Str.{bytes_eq}
use Rattle.std.specs.Str.Parse.{digits_value, without_leading_plus}
use Rattle.std.specs.declared.alloc.Global.{Global}
use Rattle.clap.specs.Words.{App, Rule, Text, fault_of, first_of, matches_of, new_app, new_rule}
use Rattle.clap.specs.Words.{one_of, takes}
use Rattle.clap.specs.declared.builder.action.ArgAction.TheVariants.{Set}
use Rattle.clap.specs.declared.builder.value_parser.ValueParser.TheVariants.{Signed}
use Rattle.lrc_base.specs.declared.limits.TheConstants.{ROW_LIMIT, MEMO_LIMIT, DEPTH_LIMIT, SEED_LIMIT, TREE_LIMIT, SESSION_LIMIT}
use Rattle.lrc_words.specs.declared.command.Command.{Command}
use Rattle.lrc_words.specs.declared.command.Verb.{Verb}
use Rattle.lrc_words.specs.declared.command.Verb.TheVariants as verb

-- the first word behind the program's name, which is required
abbrev pub command_word : Rule
command_word = record (new_rule (codes "command")) { required = true }

-- `--name`, a whole number from low to high, and `usual` where it is not given
abbrev pub whole_number : Text → ℕ → ℕ → Text → Rule
whole_number name low high usual = record (new_rule name) {
  long = Some name;
  action = Some Set;
  parser = Some (Signed (pos low) (pos high));
  defaults = usual ∷ [];
}

-- the arguments in the order in which they are declared
abbrev pub arguments : List Rule
arguments = command_word
    ∷ whole_number (codes "rows") 1 ROW_LIMIT (codes "262144")
    ∷ whole_number (codes "memo") 1 MEMO_LIMIT (codes "65536")
    ∷ whole_number (codes "depth") 1 DEPTH_LIMIT (codes "500")
    ∷ whole_number (codes "seed") 0 SEED_LIMIT (codes "1")
    ∷ whole_number (codes "nodes") 1 TREE_LIMIT (codes "1000")
    ∷ whole_number (codes "sessions") 1 SESSION_LIMIT (codes "1") ∷ []

-- the command, with nothing but these arguments
unfoldable pub COMMAND : App
COMMAND = record (new_app (codes "lrc")) { top = record (new_app (codes "lrc")).top { rules = arguments } }

-- the words as text
abbrev pub texts : List (String Global) → List Text
texts = map string_bytes

-- the command takes the words: none of its faults comes
abbrev pub AreTaken : List Text → Type 0
AreTaken words = fault_of COMMAND words ≡ []

-- what is to be done, by its name
abbrev pub verb_named : Text → Option Verb
verb_named name = if bytes_eq name (codes "run") then Some verb.Run
    else (if bytes_eq name (codes "solo") then Some verb.Solo
    else (if bytes_eq name (codes "check") then Some verb.Check
    else (if bytes_eq name (codes "plan") then Some verb.Plan
    else (if bytes_eq name (codes "gen") then Some verb.Gen else None))))

-- what the words ask for, where it is one of the five
abbrev pub verb_of : List Text → Option Verb
verb_of words = option_and_then verb_named (first_of (codes "command") (matches_of COMMAND words))

-- the number that a text writes in decimals
abbrev pub number_in : Text → ℕ
number_in text = digits_value 10 (without_leading_plus text)

-- the number that the words give the option `name`
abbrev pub number_of : Text → List Text → Option ℕ
number_of name words = option_map number_in (one_of name (matches_of COMMAND words))

-- the words are taken, and this is what they say
pub record Says (words : List Text) (command : Command) : Type 0 where
  pub taken : AreTaken words
  pub verb : verb_of words ≡ Some command.verb
  pub rows : number_of (codes "rows") words ≡ Some command.rows
  pub memo : number_of (codes "memo") words ≡ Some command.memo
  pub depth : number_of (codes "depth") words ≡ Some command.depth
  pub seed : number_of (codes "seed") words ≡ Some command.seed
  pub nodes : number_of (codes "nodes") words ≡ Some command.nodes
  pub sessions : number_of (codes "sessions") words ≡ Some command.sessions

-- each number is within its range
pub record IsWithinRanges (command : Command) : Type 0 where
  pub rows : (1 ≤ command.rows) × (command.rows ≤ ROW_LIMIT)
  pub memo : (1 ≤ command.memo) × (command.memo ≤ MEMO_LIMIT)
  pub depth : (1 ≤ command.depth) × (command.depth ≤ DEPTH_LIMIT)
  pub seed : command.seed ≤ SEED_LIMIT
  pub nodes : (1 ≤ command.nodes) × (command.nodes ≤ TREE_LIMIT)
  pub sessions : (1 ≤ command.sessions) × (command.sessions ≤ SESSION_LIMIT)

-- the command does not take the words
abbrev pub AreRefused : List Text → Type 0
AreRefused words = (takes COMMAND words ≡ false) × (AreTaken words → ⊥)
