use Rattle.std.proofs.Common.{All, take}
use Rattle.lrc_order_meaning.specs.Ordered.{IsGivenThere}
use Rattle.lrc_ordered.proofs.small.are_given_there.Given as goal

abbrev pub invariant-loop-pair : goal.invariant-loop-pair
invariant-loop-pair l = All (IsGivenThere l.grammar.sorts) (take l.pair-index l.given)
