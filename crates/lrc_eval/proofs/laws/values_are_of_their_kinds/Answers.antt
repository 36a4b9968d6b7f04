use Rattle.lrc_eval.proofs.KindLemmas.{value-of-kind}
use Rattle.lrc_eval.proofs.laws.values_are_of_their_kinds.Goals as goal

pub returns : goal.returns
returns c = value-of-kind
