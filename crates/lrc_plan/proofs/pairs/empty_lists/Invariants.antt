use Rattle.std.proofs.Common.{◌≡◌, [], map}
use Rattle.std.specs.List.{range_with_len}
use Rattle.lrc_plan_meaning.specs.Items.{firsts_of}
use Rattle.lrc_plan.proofs.pairs.empty_lists.Given as goal

abbrev pub invariant-lists : goal.invariant-lists
invariant-lists l = l.lists.items ≡ map (λ o. firsts_of [] o) (range_with_len 0 l._list)
