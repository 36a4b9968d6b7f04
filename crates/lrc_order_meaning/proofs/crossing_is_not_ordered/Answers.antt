use Rattle.lrc_order_meaning.proofs.CrossingLemmas.{is_crossing}
use Rattle.lrc_order_meaning.proofs.crossing_is_not_ordered.Goals as goal

pub returns : goal.returns
returns c = is_crossing
