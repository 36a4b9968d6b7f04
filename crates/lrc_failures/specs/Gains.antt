-- What a sink gains of a text.
use Rattle.std.specs.Prelude.{◌≤◌, ◌⊎◌, ℕ, List, Option, Result, OnOk, OnErr}
use Rattle.std.specs.Io.KnownBytes.{Appends}
use Rattle.lrc_outside.specs.Count.{Rose}
use Rattle.lrc_outside.specs.Known.{AppendsPart}

-- The text is appended; or the count of faults rose, and only a part of it is, from its front.
pub record Gains {T E : Type 0} (old new : Option (List ℕ)) (faults faults' : ℕ) (result : Result T E) (text : List ℕ) : Type 0 where
  pub all : OnOk result (Appends old new text)
  pub part : OnErr result (AppendsPart old new text)
  pub rose : OnErr result (Rose faults faults')
  pub never_falls : faults ≤ faults'

-- known bytes grow by the line, or by a part of it, from its front, where the count of faults rose
abbrev pub GainsLine : Option (List ℕ) → Option (List ℕ) → ℕ → ℕ → List ℕ → Type 0
GainsLine old new faults faults' line = Appends old new line ⊎ (Rose faults faults' × AppendsPart old new line)
