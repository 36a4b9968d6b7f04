use Rattle.lrc_laws.proofs.SoundLemmas.{sound_plan}
use Rattle.lrc_laws.proofs.RootLemmas.{attributions_unique}
use Rattle.lrc_laws.proofs.attribution.attribution_is_unique.Goals as goal

pub returns : goal.returns
returns c g found order t d e fit a b = attributions_unique g found (sound_plan g found order) t d e fit a b
