use Rattle.lrc_laws.proofs.SoundLemmas.{sound_plan}
use Rattle.lrc_laws.proofs.RootLemmas.{attributes_given, given_attributes, root_height}
use Rattle.lrc_laws.proofs.attribution.visits_compute_the_attribution.Goals as goal

pub returns-clause-attributes : goal.returns-clause-attributes
returns-clause-attributes c g found order limit t vs = (
  λ a. (a.fitting, attributes_given g found (sound_plan g found order) limit t vs a),
  λ gives. given_attributes g found (sound_plan g found order) limit t vs gives.0 gives.1,
)

pub returns-clause-height : goal.returns-clause-height
returns-clause-height c g found order fuel t d r fit a e = root_height g found (sound_plan g found order) fuel t d r fit a e
