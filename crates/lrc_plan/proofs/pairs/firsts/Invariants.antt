use Rattle.std.proofs.Common.{◌≡◌, take, map}
use Rattle.std.specs.List.{range_with_len}
use Rattle.lrc_plan_meaning.specs.Items.{firsts_of}
use Rattle.lrc_plan.proofs.pairs.firsts.Given as goal

abbrev pub invariant-pairs : goal.invariant-pairs
invariant-pairs l = l.lists.items ≡ map (firsts_of (take l.pair-index l.pairs)) (range_with_len 0 l.count)
