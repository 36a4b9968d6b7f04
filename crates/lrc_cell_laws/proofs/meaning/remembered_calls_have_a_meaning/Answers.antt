use Rattle.lrc_cell_laws.proofs.MeaningLemmas.{single, filled, closed, reached_is}
use Rattle.lrc_cell_laws.proofs.meaning.remembered_calls_have_a_meaning.Goals as goal

pub returns-clause-single : goal.returns-clause-single
returns-clause-single c = single

pub returns-clause-filled : goal.returns-clause-filled
returns-clause-filled c = filled

pub returns-clause-closed : goal.returns-clause-closed
returns-clause-closed c = closed

pub returns-clause-reach : goal.returns-clause-reach
returns-clause-reach c = reached_is
