-- The place that the text of a path names.
use Rattle.std.specs.Prelude.{ℕ, List}
use Rattle.lrc_base.specs.declared.job.Path.{Path}
use Rattle.lrc_lex.specs.Tokens.{path_steps}

abbrev pub place : List ℕ → Path
place text = record { steps = path_steps text }
