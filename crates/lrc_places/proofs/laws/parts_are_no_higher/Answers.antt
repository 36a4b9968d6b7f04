use Rattle.lrc_places.proofs.PlaceLemmas.{no-higher}
use Rattle.lrc_places.proofs.laws.parts_are_no_higher.Goals as goal

pub returns : goal.returns
returns c = no-higher
