use Rattle.lrc_meaning.proofs.ExampleLemmas.{wrong_sum_is_none}
use Rattle.lrc_meaning.proofs.a_wrong_value_is_no_attribution.Goals as goal

pub returns : goal.returns
returns c = wrong_sum_is_none
