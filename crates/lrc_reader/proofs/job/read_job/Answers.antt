use Rattle.lrc_reader.proofs.Limits.{ok_keeps_limits, ok_keeps_counts}
use Rattle.lrc_reader.proofs.job.read_job.Goals as goal

pub returns-clause-limits : goal.returns-clause-limits
returns-clause-limits c = ok_keeps_limits _ _ c.job_of.ensures.ok

pub returns-clause-counts : goal.returns-clause-counts
returns-clause-counts c = ok_keeps_counts _ _ c.job_of.ensures.ok
