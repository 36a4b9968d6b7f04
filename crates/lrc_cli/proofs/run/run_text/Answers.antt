use Rattle.std.proofs.Common.{map, sym, ◌∙◌, arith}
use Rattle.std.proofs.lemmas.List.{length-map}
use Rattle.lrc_grammar.specs.Grammar.{grammar_of}
use Rattle.lrc_job.specs.Job.{session}
use Rattle.lrc_failures.specs.declared.failure.Failure.TheVariants as f
use Rattle.lrc_cli.specs.Causes.{IsCause, of_job, reads_no_memory}
use Rattle.lrc_cli.proofs.TopLemmas.{if_err}
use Rattle.lrc_cli.proofs.RunLemmas.{as_many, run_is}
use Rattle.lrc_cli.proofs.TextLemmas.{run_text-all_sessions}
use Rattle.lrc_cli.proofs.run.run_text.Goals as goal

pub returns-in_err-accepted-clause-cause : goal.returns-in_err-accepted-clause-cause
returns-in_err-accepted-clause-cause g c =
    let failure = c.in_err-accepted.field-0.0 in
    if_err c.from_residual-in_err-accepted.result (IsCause c.args.command.now c.args.bytes.now) failure c.from_residual-in_err-accepted.ensures.1
    (of_job c.in_ok-job.job failure c.in_ok-job.ensures.job c.in_err-accepted.ensures.cause)

pub outs_of-requires-clause-few : goal.outs_of-requires-clause-few
outs_of-requires-clause-few g c =
    let sessions = c.in_ok-accepted.accepted.sessions in
    let many = as_many c.in_ok-job.job (grammar_of c.in_ok-accepted.accepted.grammar) (map session sessions) c.in_ok-accepted.ensures.accepted in
    let same = length-map sessions session in
    let few = c.in_ok-job.ensures.counts.sessions in omega arith

pub returns-in_err-outs-clause-cause : goal.returns-in_err-outs-clause-cause
returns-in_err-outs-clause-cause g c = if_err c.from_residual-in_err-outs.result (IsCause c.args.command.now c.args.bytes.now) f.Memory c.from_residual-in_err-outs.ensures.1 reads_no_memory

pub returns-in_err-sessions_text-clause-cause : goal.returns-in_err-sessions_text-clause-cause
returns-in_err-sessions_text-clause-cause g c =
    if_err c.from_residual-in_err-sessions_text.result (IsCause c.args.command.now c.args.bytes.now) f.Memory c.from_residual-in_err-sessions_text.ensures.1 reads_no_memory

pub returns-clause-output : goal.returns-clause-output
returns-clause-output h c =
    let g = grammar_of c.in_ok-accepted.accepted.grammar in
    let outs = c.in_ok-outs.outs in
    let found = c.in_ok-outs.ensures in
    record {
      job = c.in_ok-job.job;
      denotes = c.in_ok-job.ensures.job;
      run =
          run_is c.in_ok-job.job g (map session c.in_ok-accepted.accepted.sessions) c.in_ok-accepted.plan.parts c.args.command.now.rows c.args.command.now.depth outs c.in_ok-accepted.ensures.accepted
          c.in_ok-accepted.ensures.parts found;
      prints = c.in_ok-sessions_text.ensures ∙ sym (run_text-all_sessions g found.replies found.lasts outs found.lines found.finals);
    }
