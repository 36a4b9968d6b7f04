use Rattle.std.proofs.Common.{Contains}
use Rattle.lrc_order_meaning.proofs.TransitiveLemmas.{induced_transitive}
use Rattle.lrc_order_meaning.proofs.GreatestLemmas.{greatest_turn, turn_greatest}
use Rattle.lrc_order_meaning.proofs.one_look_tells_a_set.Goals as goal

pub returns-clause-transitive : goal.returns-clause-transitive
returns-clause-transitive c = induced_transitive

pub returns-clause-greatest : goal.returns-clause-greatest
returns-clause-greatest c = λ g given s k earlier r there exact a. (
  greatest_turn g given s k (Contains earlier) a,
  turn_greatest g given s k (Contains earlier) r exact (induced_transitive g given there s) a,
)
