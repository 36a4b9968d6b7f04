use Rattle.std.proofs.Common.{◌≡◌, ◌⊎◌, ◌*◌, ◌<◌, ◌∙◌, map, length, ap, sym, subst, arith}
use Rattle.std.proofs.lemmas.List.{length-map}
use Rattle.lrc_base.specs.declared.job.Job.{Job}
use Rattle.lrc_meaning.specs.Limits.{KeepsLimits}
use Rattle.lrc_grammar.specs.Grammar.{grammar_of}
use Rattle.lrc_job.specs.Job.{session}
use Rattle.lrc_failures.specs.declared.failure.Failure.{Failure}
use Rattle.lrc_failures.specs.declared.failure.Failure.TheVariants as f
use Rattle.lrc_gen.specs.Generated.{generated}
use Rattle.lrc_cli.specs.Causes.{row_limit, IsJobCause}
use Rattle.lrc_cli.proofs.LetsLimits.{lets_keep_limits}
use Rattle.lrc_cli.proofs.TopLemmas.{if_err, generated_refused}
use Rattle.lrc_cli.proofs.RunLemmas.{moved_job, same_sessions, run_is}
use Rattle.lrc_cli.proofs.SumLemmas.{summary_text-lines}
use Rattle.lrc_cli.proofs.run.generated_text.Goals as goal

pub prepared-requires : goal.prepared-requires
prepared-requires g c = subst (λ (job : Job). KeepsLimits job.grammar) (sym c.in_ok-job.ensures.job) lets_keep_limits

pub returns-in_err-accepted-clause-cause : goal.returns-in_err-accepted-clause-cause
returns-in_err-accepted-clause-cause g c =
    let command = c.args.command.now in
    if_err c.from_residual-in_err-accepted.result (λ (failure : Failure). ((failure ≡ f.TooManyRows) × (row_limit < command.rows * command.sessions)) ⊎ (failure ≡ f.Memory)) c.in_err-accepted.field-0.0
    c.from_residual-in_err-accepted.ensures.1
    (generated_refused command c.in_err-accepted.field-0.0 c.requires.generated (c.generated_job_is_accepted.ensures command.seed command.nodes command.sessions) c.generated_grammar_is_ordered.ensures
    (subst (λ (job : Job). IsJobCause command job c.in_err-accepted.field-0.0) c.in_ok-job.ensures.job c.in_err-accepted.ensures.cause))

pub outs_of-requires-clause-few : goal.outs_of-requires-clause-few
outs_of-requires-clause-few g c =
    let command = c.args.command.now in
    let sessions = c.in_ok-accepted.accepted.sessions in
    let job = generated command.seed command.nodes command.sessions in
    let drawn = c.generated_job_is_accepted.ensures command.seed command.nodes command.sessions in
    let here = moved_job (grammar_of c.in_ok-accepted.accepted.grammar) (map session sessions) c.in_ok-job.job job c.in_ok-job.ensures.job c.in_ok-accepted.ensures.accepted in
    let same = ap length (same_sessions job _ _ (map session sessions) drawn.found here drawn.has).1 in
    let count = drawn.count in
    let written = length-map sessions session in
    let few = c.requires.within.sessions.1 in omega arith

pub returns-clause-output : goal.returns-clause-output
returns-clause-output h c =
    let command = c.args.command.now in
    let g = grammar_of c.in_ok-accepted.accepted.grammar in
    let sessions = c.in_ok-accepted.accepted.sessions in
    let job = generated command.seed command.nodes command.sessions in
    let outs = c.in_ok-outs.outs in
    let found = c.in_ok-outs.ensures in
    let here = moved_job g (map session sessions) c.in_ok-job.job job c.in_ok-job.ensures.job c.in_ok-accepted.ensures.accepted in
    let summed = c.in_ok-summary_text.ensures in
    record {
      run = run_is job g (map session sessions) c.in_ok-accepted.plan.parts command.rows command.depth outs here c.in_ok-accepted.ensures.parts found;
      prints = summed.2 ∙ sym (summary_text-lines g found.replies outs summed.0 found.lines summed.1);
    }
