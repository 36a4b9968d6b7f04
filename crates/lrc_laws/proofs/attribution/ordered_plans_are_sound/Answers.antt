use Rattle.lrc_laws.proofs.SoundLemmas.{sound_plan}
use Rattle.lrc_laws.proofs.attribution.ordered_plans_are_sound.Goals as goal

pub returns : goal.returns
returns c g found order = (sound_plan g found order).sound
