use Rattle.lrc_cell_laws.proofs.NestedLemmas.{nested, of_call}
use Rattle.lrc_cell_laws.proofs.reached.nested_visits_are_lower.Goals as goal

pub returns-clause-calls : goal.returns-clause-calls
returns-clause-calls c = nested

pub returns-clause-results : goal.returns-clause-results
returns-clause-results c = of_call
