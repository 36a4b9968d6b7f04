-- A session over a store of its own: `full` comes only where its rows are too few.
use Rattle.std.proofs.Common.{◌≡◌, ℕ, false, ◌∙◌, subst}
use Rattle.lrc_base.specs.declared.job.Script.{Script}
use Rattle.lrc_meaning.specs.Tree.{tree}
use Rattle.lrc_meaning.specs.Editing.{change}
use Rattle.lrc_meaning.specs.Text.{unparsed}
use Rattle.std.specs.Prelude.{map}
use Rattle.lrc_store.specs.Standing.{Standing}
use Rattle.lrc_store.specs.Words.{Lasts}
use Rattle.lrc_plain.specs.Plain.{IsNew}
use Rattle.lrc_functions.specs.declared.functions.Functions.{Functions}
use Rattle.lrc_session.specs.Sessions.{grammar, sorts}
use Rattle.lrc_run.specs.declared.reply.Out.{Out}
use Rattle.lrc_run.specs.Rows.{IsLessThanWanted, RowsRunOut}
use Rattle.lrc_run.specs.Playing.{IsUncounted, RunsOut, Plays}
use Rattle.lrc_run.specs.Solo.{IsSolo}
use Rattle.lrc_run.specs.Laws.{RunsOutOfRows}
use Rattle.lrc_run.proofs.RunLemmas.{reply_run_weaker}

pub rows_run_out : RunsOutOfRows
rows_run_out functions limit rows text_of s opening changes replies last attempts quota run =
    reply_run_weaker (grammar functions) limit text_of (RunsOut functions limit s) (RowsRunOut (grammar functions) (sorts functions) limit rows)
    (λ earlier t out. (subst (λ n. IsLessThanWanted (grammar functions) (sorts functions) limit n earlier t) (out.used ∙ quota) out.less, out.wants))
    opening changes replies last attempts run

pub solo : (functions : Functions) (limit rows : ℕ) (script : Script) (out : Out) (s t : Standing) → s.pooled ≡ false → IsNew s rows → Lasts s t → Plays functions limit s t script out → IsSolo functions limit rows script out t
solo functions limit rows script out s t pooled new lasts plays =
    let fresh : IsUncounted s = record { memo = new.memo; missed = new.missed } in
    record {
      replies = plays.replies;
      last = plays.last;
      attempts = plays.attempts;
      runs =
          rows_run_out functions limit rows (unparsed functions.plan.grammar.prods) t (tree script.tree) (map change script.edits) plays.replies plays.last plays.attempts (lasts.quota.fixed pooled ∙ new.quota)
          plays.runs;
      lines = plays.lines;
      is_last = plays.is_last;
      counted = plays.counted fresh;
      tallies = plays.tallies fresh;
    }
