use Rattle.lrc_augment.proofs.AgainLemmas.{filled_again}
use Rattle.lrc_augment.proofs.laws.filled_twice_is_filled.Goals as goal

pub returns : goal.returns
returns c = filled_again
