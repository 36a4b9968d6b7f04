use Rattle.std.proofs.Common.{◌≡◌, ◌∙◌, ◌⊎◌, ℕ, Err, ap, sym, subst}
use Rattle.lrc_failures.specs.Lines.{status_of, IsStatus}
use Rattle.lrc_cli.proofs.TopLemmas.{is_failure, is_done, is_refusal_of, is_write, line_gained, done_or_memory, not_usage, not_refused}
use Rattle.lrc_cli.proofs.top.lrc.Goals as goal

pub returns-in-Err-clause-command : goal.returns-in-Err-clause-command
returns-in-Err-clause-command g c = λ two seven. c.in-Err.ensures.command (λ e. two (c.status.ensures ∙ ap status_of e)) (λ e. seven (c.status.ensures ∙ ap status_of e))

pub returns-in-Err-clause-refused : goal.returns-in-Err-clause-refused
returns-in-Err-clause-refused g c = λ h. (
  c.in-Err.failure,
  c.status.ensures,
  c.in-Err.ensures.refused (is_refusal_of c.in-Err.failure (subst (λ (n : ℕ). (n ≡ 5) ⊎ (n ≡ 6)) c.status.ensures h)),
  line_gained _ _ _ _ c.put_line.result _ c.put_line.ensures,
)

pub returns-in-Err-clause-statuses : goal.returns-in-Err-clause-statuses
returns-in-Err-clause-statuses g c = subst IsStatus (sym c.status.ensures) (is_failure c.in-Err.failure)

pub returns-in-Ok-clause-statuses : goal.returns-in-Ok-clause-statuses
returns-in-Ok-clause-statuses g c = is_done

pub returns-in-Err-clause-part : goal.returns-in-Err-clause-part
returns-in-Err-clause-part g c = λ e. c.in-Err.ensures.part (ap Err (is_write c.in-Err.failure (sym c.status.ensures ∙ e)))

pub returns-in-Err-clause-complete : goal.returns-in-Err-clause-complete
returns-in-Err-clause-complete g c = λ command says source out job.
    subst (λ (n : ℕ). (n ≡ 0) ⊎ (n ≡ 7)) (sym c.status.ensures) (done_or_memory c.in-Err.failure
    (λ e. not_usage _ command says (c.in-Err.ensures.usage (ap Err e)))
    (λ e. source (c.in-Err.ensures.read_fault (ap Err e)))
    (λ e. out (c.in-Err.ensures.write_fault (ap Err e)))
    (λ r. not_refused c.one_job.ensures c.args.words.now command _ _ c.in-Err.failure says job r (c.in-Err.ensures.refused r)))
