use Rattle.lrc_job.proofs.TermLawLemmas.{found_fits, fitting_is_found}
use Rattle.lrc_job.proofs.term_laws.found_exactly_where_fitting.Goals as goal

pub returns-clause-fits : goal.returns-clause-fits
returns-clause-fits c = found_fits

pub returns-clause-found : goal.returns-clause-found
returns-clause-found c = fitting_is_found
