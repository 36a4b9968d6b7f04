use Rattle.lrc_places.proofs.PlaceLemmas.{placed}
use Rattle.lrc_places.proofs.laws.what_is_put_is_there.Goals as goal

pub returns : goal.returns
returns c = placed
