use Rattle.std.proofs.Common.{◌≡◌, ◌+◌, map, take, replicate, false}
use Rattle.lrc_plan.proofs.item_set.ItemSet.new.Given as goal

abbrev pub invariant-symbols : goal.invariant-symbols
invariant-symbols l = l.kids.items ≡ map (λ n. replicate (n + 1) (replicate (n + 1) false)) (take l.count-index l.visits)
