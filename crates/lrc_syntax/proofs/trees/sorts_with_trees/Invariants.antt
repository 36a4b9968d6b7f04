use Rattle.std.proofs.Common.{◌≡◌, length, not, count_by}
use Rattle.lrc_syntax.proofs.TreeLemmas.{Sound}
use Rattle.lrc_syntax.proofs.trees.sorts_with_trees.Given as goal

-- the sorts that are found have trees
abbrev pub invariant-loop-sort : goal.invariant-loop-sort
invariant-loop-sort l = record {
  count : length l.found.items ≡ l.sorts;
  sound : Sound l.prods l.found.items;
}

abbrev pub decreases-loop-sort : goal.decreases-loop-sort
decreases-loop-sort l = count_by not l.found.items
