use Rattle.std.proofs.Common.{IsTrue}
use Rattle.lrc_failures.specs.declared.failure.Failure.TheVariants as f
use Rattle.lrc_cli.specs.Status.{Refused, is_refusal}
use Rattle.lrc_cli.proofs.TopLemmas.{done, unwritten, hindrance_usage, hindrance_write, hindrance_read, hindrance_refused, same_err, if_err, same_kept, loses_nothing}
use Rattle.lrc_cli.proofs.top.answered.Goals as goal

pub returns-in_err-text-clause-usage : goal.returns-in_err-text-clause-usage
returns-in_err-text-clause-usage g c = λ e.
    absurd (hindrance_usage _ _ _ _ _ c.in_err-text.field-0.0 c.in_err-text.ensures.refused (same_err c.from_residual-in_err-text.result _ f.Usage c.from_residual-in_err-text.ensures.1 e))

pub returns-in_err-text-clause-unread : goal.returns-in_err-text-clause-unread
returns-in_err-text-clause-unread g c = λ e.
    absurd (hindrance_usage _ _ _ _ _ c.in_err-text.field-0.0 c.in_err-text.ensures.refused (same_err c.from_residual-in_err-text.result _ f.Usage c.from_residual-in_err-text.ensures.1 e))

pub returns-in_err-text-clause-read_fault : goal.returns-in_err-text-clause-read_fault
returns-in_err-text-clause-read_fault g c = λ e.
    hindrance_read _ _ _ _ _ c.in_err-text.field-0.0 c.in_err-text.ensures.refused (same_err c.from_residual-in_err-text.result _ f.Read c.from_residual-in_err-text.ensures.1 e)

pub returns-in_err-text-clause-write_fault : goal.returns-in_err-text-clause-write_fault
returns-in_err-text-clause-write_fault g c = λ e.
    absurd (hindrance_write _ _ _ _ _ c.in_err-text.field-0.0 c.in_err-text.ensures.refused (same_err c.from_residual-in_err-text.result _ f.Write c.from_residual-in_err-text.ensures.1 e))

pub returns-in_err-text-clause-part : goal.returns-in_err-text-clause-part
returns-in_err-text-clause-part g c = λ e.
    absurd (hindrance_write _ _ _ _ _ c.in_err-text.field-0.0 c.in_err-text.ensures.refused (same_err c.from_residual-in_err-text.result _ f.Write c.from_residual-in_err-text.ensures.1 e))

pub returns-in_err-text-clause-refused : goal.returns-in_err-text-clause-refused
returns-in_err-text-clause-refused g c =
    if_err c.from_residual-in_err-text.result (λ failure. IsTrue (is_refusal failure) → Refused c.args.words.now (g.S.Source.left c.args.source.now) (g.S.Source.left c.command_output.new.source) failure)
    c.in_err-text.field-0.0 c.from_residual-in_err-text.ensures.1
    (hindrance_refused c.args.words.now c.in_ok-command.command _ _ _ _ c.in_err-text.field-0.0 c.in_ok-command.ensures.says c.in_ok-command.ensures.within c.in_err-text.ensures.refused)

pub returns-in_err-put_all-clause-part : goal.returns-in_err-put_all-clause-part
returns-in_err-put_all-clause-part g c = λ e.
    unwritten c.args.words.now _ _ _ _ c.in_ok-command.command c.in_ok-text.text c.in_ok-command.ensures.says c.in_ok-text.ensures.output (rw c.as_slice.ensures at c.in_err-put_all.ensures.part)

pub returns-clause-done : goal.returns-clause-done
returns-clause-done g c =
    done c.args.words.now _ _ _ _ c.in_ok-command.command c.in_ok-text.text c.in_ok-command.ensures.says c.in_ok-text.ensures.output (rw c.as_slice.ensures at c.in_ok-put_all.ensures.all)

pub returns-in_err-command-clause-taken : goal.returns-in_err-command-clause-taken
returns-in_err-command-clause-taken g c = loses_nothing (g.S.Source.left c.args.source.now)

pub returns-in_err-text-clause-kept : goal.returns-in_err-text-clause-kept
returns-in_err-text-clause-kept g c = λ other says nothing. c.command_output.ensures.kept (same_kept c.args.words.now c.in_ok-command.command other c.in_ok-command.ensures.says says nothing)

pub returns-in_err-put_all-clause-kept : goal.returns-in_err-put_all-clause-kept
returns-in_err-put_all-clause-kept g c = λ other says nothing. c.command_output.ensures.kept (same_kept c.args.words.now c.in_ok-command.command other c.in_ok-command.ensures.says says nothing)

pub returns-clause-kept : goal.returns-clause-kept
returns-clause-kept g c = λ other says nothing. c.command_output.ensures.kept (same_kept c.args.words.now c.in_ok-command.command other c.in_ok-command.ensures.says says nothing)
