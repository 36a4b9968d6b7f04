use Rattle.lrc_ordered.proofs.SmallLemmas.{few_is_small}
use Rattle.lrc_ordered.proofs.small.few_is_small.Goals as goal

pub returns : goal.returns
returns c = few_is_small
