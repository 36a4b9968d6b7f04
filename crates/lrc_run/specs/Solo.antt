-- What a session is answered that has a store of its own with so many rows.
use Rattle.std.specs.Prelude.{ℕ, IsTrue, List, Option, map}
use Rattle.lrc_base.specs.declared.job.Script.{Script}
use Rattle.lrc_meaning.specs.Tree.{Tree, tree}
use Rattle.lrc_meaning.specs.Editing.{change, Reply, Attempt, ReplyRun}
use Rattle.lrc_meaning.specs.Text.{unparsed}
use Rattle.lrc_store.specs.Standing.{Standing}
use Rattle.lrc_functions.specs.declared.functions.Functions.{Functions}
use Rattle.lrc_session.specs.Sessions.{grammar, sorts}
use Rattle.lrc_run.specs.Rows.{RowsRunOut}
use Rattle.lrc_run.specs.Lines.{AreLines}
use Rattle.lrc_run.specs.Counts.{counts_of, Tallies, IsCounted, are_all_counted}
use Rattle.lrc_run.specs.Playing.{IsLast}
use Rattle.lrc_run.specs.declared.reply.Out.{Out}

-- Its lines are those of its replies by the editing rules, where `full` comes only where so many rows are fewer than the cells that
-- are demanded, with the counts of bodies and of cells; its last tree is in the store; and the store has the counts of the whole
-- session, if each attempt was answered with values.
pub record IsSolo (functions : Functions) (limit rows : ℕ) (script : Script) (out : Out) (s : Standing) : Type 0 where
  pub replies : List Reply
  pub last : Option Tree
  pub attempts : List Attempt
  pub runs : ReplyRun (grammar functions) limit (unparsed functions.plan.grammar.prods) (RowsRunOut (grammar functions) (sorts functions) limit rows) (tree script.tree) (map change script.edits) replies last attempts
  pub lines : AreLines (grammar functions) replies out.lines
  pub is_last : IsLast s last out.last
  pub counted : IsCounted (grammar functions) (sorts functions) limit (tree script.tree) (map change script.edits) replies (map counts_of out.lines)
  pub tallies : IsTrue (are_all_counted replies) → Tallies (grammar functions) (sorts functions) limit s attempts
