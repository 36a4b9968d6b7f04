use Rattle.lrc_reader.proofs.Laws.{one_first, no_job}
use Rattle.lrc_reader.proofs.job.fault_laws.Goals as goal

pub returns-clause-one : goal.returns-clause-one
returns-clause-one c = one_first

pub returns-clause-never_both : goal.returns-clause-never_both
returns-clause-never_both c = no_job
