use Rattle.lrc_reader.proofs.Verdict.{one_job}
use Rattle.lrc_reader.proofs.job.one_job.Goals as goal

pub returns : goal.returns
returns c = one_job
