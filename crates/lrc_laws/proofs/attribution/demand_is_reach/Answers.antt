use Rattle.lrc_laws.proofs.SoundLemmas.{sound_plan}
use Rattle.lrc_laws.proofs.RootLemmas.{demand_is_reach}
use Rattle.lrc_laws.proofs.attribution.demand_is_reach.Goals as goal

pub returns : goal.returns
returns c g found order fuel t d x fit a low = demand_is_reach g found (sound_plan g found order) fuel t d x fit a low
