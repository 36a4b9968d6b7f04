-- What the sessions of a job are answered that share one table.
use Rattle.std.specs.Prelude.{ℕ, ◌≡◌, List, [], ◌∷◌, Option, map, ⊤}
use Rattle.lrc_base.specs.declared.job.Script.{Script}
use Rattle.lrc_meaning.specs.Tree.{Tree}
use Rattle.lrc_meaning.specs.Grammar.{Grammar}
use Rattle.lrc_meaning.specs.Editing.{Reply}
use Rattle.lrc_job.specs.Job.{session}
use Rattle.lrc_functions.specs.declared.functions.Functions.{Functions}
use Rattle.lrc_session.specs.Sessions.{grammar, sorts}
use Rattle.lrc_run.specs.Rows.{RowsRunOut}
use Rattle.lrc_run.specs.Lines.{AreLines}
use Rattle.lrc_run.specs.declared.reply.Line.{Line}
use Rattle.lrc_threads.specs.Runs.{AreRuns, finals_of}
use Rattle.lrc_threads.specs.declared.outs.Outs.{Outs}

-- there is a list of lines for each list of replies
abbrev pub AreBlocks : Grammar → List (List Reply) → List (List Line) → Type 0
AreBlocks g [] [] = ⊤
AreBlocks g [] (lines ∷ blocks) = ⊥
AreBlocks g (replies ∷ all) [] = ⊥
AreBlocks g (replies ∷ all) (lines ∷ blocks) = AreLines g replies lines × AreBlocks g all blocks

-- Each session's lines are those of its replies by the editing rules, where `full` comes only where so many rows are fewer than
-- the cells that the session has demanded; and the finals are those of the last trees.
pub record AreAnswered (functions : Functions) (limit rows : ℕ) (scripts : List Script) (outs : Outs) : Type 0 where
  pub replies : List (List Reply)
  pub lasts : List (Option Tree)
  pub runs : AreRuns (grammar functions) limit (RowsRunOut (grammar functions) (sorts functions) limit rows) (map session scripts) replies lasts
  pub lines : AreBlocks (grammar functions) replies outs.sessions
  pub finals : outs.finals ≡ finals_of lasts
