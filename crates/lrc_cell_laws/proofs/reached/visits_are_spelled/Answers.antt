use Rattle.lrc_cell_laws.proofs.SpelledLemmas.{reach_spelled, gives_spelled}
use Rattle.lrc_cell_laws.proofs.reached.visits_are_spelled.Goals as goal

pub returns-clause-reach : goal.returns-clause-reach
returns-clause-reach c = reach_spelled

pub returns-clause-results : goal.returns-clause-results
returns-clause-results c = gives_spelled
