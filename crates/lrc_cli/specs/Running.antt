-- What the sessions of a job are answered, by the grammar and the partitions of its plan.
use Rattle.std.specs.Prelude.{ℕ, ◌≡◌, List, Option}
use Rattle.lrc_meaning.specs.Tree.{Tree}
use Rattle.lrc_meaning.specs.Grammar.{Grammar}
use Rattle.lrc_meaning.specs.Editing.{Reply}
use Rattle.lrc_order_meaning.specs.Ordered.{Partitions}
use Rattle.lrc_job.specs.Job.{Session}
use Rattle.lrc_threads.specs.Runs.{AreRuns, finals_of}
use Rattle.lrc_threads.specs.Sessions.{AreBlocks}
use Rattle.lrc_threads.specs.declared.outs.Outs.{Outs}
use Rattle.lrc_cli.specs.Headline.{runs_out}

-- the lines are those of each session's replies, and the finals those of the last trees
pub record AreOutsOf (g : Grammar) (parts : Partitions) (rows depth : ℕ) (sessions : List Session) (outs : Outs) : Type 0 where
  pub replies : List (List Reply)
  pub lasts : List (Option Tree)
  pub runs : AreRuns g depth (runs_out rows depth g parts) sessions replies lasts
  pub lines : AreBlocks g replies outs.sessions
  pub finals : outs.finals ≡ finals_of lasts
