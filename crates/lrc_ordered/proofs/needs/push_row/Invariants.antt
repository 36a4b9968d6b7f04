use Rattle.std.proofs.Common.{◌≡◌, ◌++◌, ◌-◌, map}
use Rattle.std.specs.List.{range_with_len}
use Rattle.lrc_order_meaning.specs.Needs.{need}
use Rattle.lrc_ordered.proofs.needs.push_row.Given as goal

abbrev pub invariant-loop-then : goal.invariant-loop-then
invariant-loop-then l = l.needs ≡ l.initial.needs ++ map (need l.first) (range_with_len l.start (l.then - l.start))
