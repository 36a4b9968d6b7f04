-- Words in examples.
use Rattle.std.specs.Prelude.{List, [], ◌∷◌, codes}
use Rattle.clap.specs.Words.{Text}
use Rattle.lrc_words.specs.declared.command.Command.{Command}
use Rattle.lrc_words.specs.declared.command.Verb.TheVariants.{Run}

-- `lrc run`
abbrev pub a_run : List Text
a_run = codes "lrc" ∷ codes "run" ∷ []

-- what it asks for: each number is the usual one
abbrev pub usual_run : Command
usual_run = record {
  verb = Run;
  rows = 262144;
  memo = 65536;
  depth = 500;
  seed = 1;
  nodes = 1000;
  sessions = 1;
}

-- `lrc --seed 7 gen --nodes=20`
abbrev pub a_generated_run : List Text
a_generated_run = codes "lrc" ∷ codes "--seed" ∷ codes "7" ∷ codes "gen" ∷ codes "--nodes=20" ∷ []

-- `lrc run --rows=5 --rows=5`
abbrev pub a_repeated_option : List Text
a_repeated_option = codes "lrc" ∷ codes "run" ∷ codes "--rows=5" ∷ codes "--rows=5" ∷ []

-- `lrc run --depth=1001`
abbrev pub a_number_too_large : List Text
a_number_too_large = codes "lrc" ∷ codes "run" ∷ codes "--depth=1001" ∷ []

-- `lrc run --help`
abbrev pub a_wish_for_help : List Text
a_wish_for_help = codes "lrc" ∷ codes "run" ∷ codes "--help" ∷ []

-- `lrc walk`, which is taken and asks for nothing that is known
abbrev pub an_unknown_command : List Text
an_unknown_command = codes "lrc" ∷ codes "walk" ∷ []
