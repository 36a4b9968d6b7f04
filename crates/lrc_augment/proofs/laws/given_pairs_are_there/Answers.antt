use Rattle.lrc_augment.proofs.ThereLemmas.{pairs_there}
use Rattle.lrc_augment.proofs.laws.given_pairs_are_there.Goals as goal

pub returns : goal.returns
returns c = pairs_there
