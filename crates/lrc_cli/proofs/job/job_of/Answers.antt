use Rattle.lrc_words.specs.declared.command.Command.{Command}
use Rattle.lrc_failures.specs.Taken.{failure_of_text}
use Rattle.lrc_cli.specs.Causes.{IsCause}
use Rattle.lrc_cli.proofs.TopLemmas.{if_err, text_cause}
use Rattle.lrc_cli.proofs.job.job_of.Goals as goal

pub returns-in_err-read_job-clause-cause : goal.returns-in_err-read_job-clause-cause
returns-in_err-read_job-clause-cause c =
    if_err c.from_residual.result (λ failure. (command : Command) → IsCause command c.args.bytes.now failure) (failure_of_text c.in_err-read_job.field-0.0) c.from_residual.ensures.1
    (λ command. text_cause command c.args.bytes.now c.in_err-read_job.field-0.0 c.in_err-read_job.ensures.fault c.in_err-read_job.ensures.only)
