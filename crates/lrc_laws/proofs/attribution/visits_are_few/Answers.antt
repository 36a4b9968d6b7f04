use Rattle.lrc_laws.proofs.FewLemmas.{few_visits}
use Rattle.lrc_laws.proofs.attribution.visits_are_few.Goals as goal

pub returns : goal.returns
returns c = few_visits
