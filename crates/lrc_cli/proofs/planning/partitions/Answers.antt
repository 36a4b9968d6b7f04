use Rattle.lrc_failures.specs.declared.failure.Failure.TheVariants as f
use Rattle.lrc_cli.specs.Causes.{IsCause, of_job, reads_no_memory}
use Rattle.lrc_cli.proofs.TopLemmas.{if_err}
use Rattle.lrc_cli.proofs.planning.partitions.Goals as goal

pub returns-in_err-_accepted-clause-cause : goal.returns-in_err-_accepted-clause-cause
returns-in_err-_accepted-clause-cause c =
    let failure = c.in_err-_accepted.field-0.0 in
    if_err c.from_residual-in_err-_accepted.result (IsCause c.args.command.now c.args.bytes.now) failure c.from_residual-in_err-_accepted.ensures.1
    (of_job c.in_ok-job.job failure c.in_ok-job.ensures.job c.in_err-_accepted.ensures.cause)

pub returns-in_err-parts_text-clause-cause : goal.returns-in_err-parts_text-clause-cause
returns-in_err-parts_text-clause-cause c =
    if_err c.from_residual-in_err-parts_text.result (IsCause c.args.command.now c.args.bytes.now) f.Memory c.from_residual-in_err-parts_text.ensures.1 reads_no_memory
