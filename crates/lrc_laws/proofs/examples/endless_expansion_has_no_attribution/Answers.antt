use Rattle.lrc_laws.proofs.EndlessLemmas.{no_loop, one_attribution}
use Rattle.lrc_laws.proofs.examples.endless_expansion_has_no_attribution.Goals as goal

pub returns-clause-none : goal.returns-clause-none
returns-clause-none c d a = no_loop d a.is_right a.is_bare

pub returns-clause-one : goal.returns-clause-one
returns-clause-one c = one_attribution
