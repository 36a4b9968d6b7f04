use Rattle.lrc_cell_laws.proofs.MeaningLemmas.{allowed}
use Rattle.lrc_cell_laws.proofs.meaning.results_may_be_remembered.Goals as goal

pub returns : goal.returns
returns c = allowed
