use Rattle.lrc_order_meaning.proofs.TurnLemmas.{none_is_empty, sets_in_turn}
use Rattle.lrc_order_meaning.proofs.sets_come_in_turn.Goals as goal

pub returns-clause-none_is_empty : goal.returns-clause-none_is_empty
returns-clause-none_is_empty c = λ g given s r there exact. none_is_empty g given s r there exact

pub returns-clause-in_turn : goal.returns-clause-in_turn
returns-clause-in_turn c = λ g given s r there exact. sets_in_turn g given s r there exact
