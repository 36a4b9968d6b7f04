use Rattle.lrc_gen_laws.proofs.AcceptedLemmas.{is_accepted}
use Rattle.lrc_gen_laws.proofs.generated_job_is_accepted.Goals as goal

pub returns : goal.returns
returns c = is_accepted
