use Rattle.std.proofs.Common.{◌≡◌, ◌++◌, take}
use Rattle.std.specs.List.{flat_map}
use Rattle.lrc_order_meaning.specs.Needs.{tree_needs}
use Rattle.lrc_ordered.proofs.needs.push_trees_needs.Given as goal

abbrev pub invariant-loop-place : goal.invariant-loop-place
invariant-loop-place l = l.needs ≡ l.initial.needs ++ flat_map (tree_needs l.sorts) (take l.place-index l.places)
