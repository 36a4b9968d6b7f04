use Rattle.lrc_functions.proofs.NumberLemmas.{told, counted}
use Rattle.lrc_functions.proofs.laws.numbers_tell_items.Goals as goal

pub returns-clause-items : goal.returns-clause-items
returns-clause-items c = told

pub returns-clause-count : goal.returns-clause-count
returns-clause-count c = counted
