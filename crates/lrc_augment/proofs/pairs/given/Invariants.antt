use Rattle.std.proofs.Common.{◌≡◌, drop}
use Rattle.lrc_augment.specs.Orders.{pairs_of}
use Rattle.lrc_augment.proofs.OrderLemmas.{then_rest}
use Rattle.lrc_augment.proofs.pairs.given.Given as goal

-- the pairs so far, and then those of the lines that are left
abbrev pub invariant-loop-line : goal.invariant-loop-line
invariant-loop-line l = pairs_of l.grammar.sorts l.orders ≡ then_rest l.pairs (pairs_of l.grammar.sorts (drop l.line-index l.orders))
