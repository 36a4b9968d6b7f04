use Rattle.std.proofs.Common.{ℕ, ◌<◌}
use Rattle.lrc_syntax.specs.Trees.{HasTree}
use Rattle.lrc_syntax.proofs.trees.first_without_tree.Given as goal

abbrev pub invariant-loop-sort : goal.invariant-loop-sort
invariant-loop-sort l = (s : ℕ) → s < l.sort → HasTree l.prods s
