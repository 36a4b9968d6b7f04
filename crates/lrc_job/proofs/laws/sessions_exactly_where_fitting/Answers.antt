use Rattle.lrc_job.proofs.LawLemmas.{found_is_session, session_is_found}
use Rattle.lrc_job.proofs.laws.sessions_exactly_where_fitting.Goals as goal

pub returns-clause-fits : goal.returns-clause-fits
returns-clause-fits c = found_is_session

pub returns-clause-found : goal.returns-clause-found
returns-clause-found c = session_is_found
