use Rattle.lrc_cell_laws.proofs.TagLemmas.{reach_tags}
use Rattle.lrc_cell_laws.proofs.reached.visits_have_tags.Goals as goal

pub returns : goal.returns
returns c g found order small fuel call tag = reach_tags g found order small fuel call tag
