use Rattle.std.proofs.Common.{◌∷◌, map, take}
use Rattle.lrc_meaning.specs.Grammar.{Grammar}
use Rattle.lrc_meaning.specs.Editing.{change, all_unopened}
use Rattle.lrc_run.specs.Lines.{reply_of, AreLines}
use Rattle.lrc_run.proofs.playing.unopened.Given as goal

-- the lines so far are those of the opening and of the edits so far
abbrev pub invariant-edits : goal.invariant-edits
invariant-edits o l = (g : Grammar) → AreLines g (reply_of l.fn.outcome ∷ all_unopened (map change (take l.before l.edits))) l.lines
