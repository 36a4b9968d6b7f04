use Rattle.std.proofs.Common.{ℕ, length, map, sym, subst, ◌∙◌}
use Rattle.std.proofs.lemmas.List.{length-map}
use Rattle.lrc_grammar.specs.Grammar.{grammar_of}
use Rattle.lrc_job.specs.Job.{session}
use Rattle.lrc_failures.specs.Taken.{failure_of_job}
use Rattle.lrc_cli.specs.Causes.{KeepsRows, IsCountFault, IsJobCause, other_count}
use Rattle.lrc_cli.proofs.TopLemmas.{if_err, job_cause, unordered_cause}
use Rattle.lrc_cli.proofs.prepared.prepared.Goals as goal

pub returns-in_err-accepted-clause-cause : goal.returns-in_err-accepted-clause-cause
returns-in_err-accepted-clause-cause c =
    if_err c.from_residual.result (IsJobCause c.args.command.now c.args.job.now) (failure_of_job c.in_err-accepted.field-0.0) c.from_residual.ensures.1
    (job_cause c.args.command.now c.args.job.now c.in_err-accepted.field-0.0 c.in_err-accepted.ensures.err)

pub returns-in_err-takes-clause-cause : goal.returns-in_err-takes-clause-cause
returns-in_err-takes-clause-cause c =
    let sessions = c.in_ok-accepted.accepted.sessions in
    let fault = c.in_err-takes.field-0.0 in
    if_err c.from_residual-in_err-takes.result (IsJobCause c.args.command.now c.args.job.now) fault c.from_residual-in_err-takes.ensures.1
    (other_count (grammar_of c.in_ok-accepted.accepted.grammar) (map session sessions) fault c.in_ok-accepted.ensures.ok
    (subst (λ (n : ℕ). IsCountFault c.args.command.now n fault) (c.len-sessions.ensures ∙ sym (length-map sessions session)) c.in_err-takes.ensures.fault))

pub returns-in_err-plan-clause-cause : goal.returns-in_err-plan-clause-cause
returns-in_err-plan-clause-cause c =
    let sessions = c.in_ok-accepted.accepted.sessions in
    let failure = c.in_err-plan.field-0.0 in
    if_err c.from_residual-in_err-plan.result (IsJobCause c.args.command.now c.args.job.now) failure c.from_residual-in_err-plan.ensures.1
    (unordered_cause c.args.command.now c.args.job.now (grammar_of c.in_ok-accepted.accepted.grammar) (map session sessions) failure c.in_ok-accepted.ensures.ok
    (subst (λ (n : ℕ). KeepsRows c.args.command.now n) (c.len-sessions.ensures ∙ sym (length-map sessions session)) c.in_ok-takes.ensures.rows) c.in_err-plan.ensures.fault)
