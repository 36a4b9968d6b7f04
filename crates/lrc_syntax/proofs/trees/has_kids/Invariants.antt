use Rattle.std.proofs.Common.{◌≡◌, drop}
use Rattle.std.specs.List.{list_all}
use Rattle.lrc_syntax.specs.Trees.{has_kid}
use Rattle.lrc_syntax.proofs.trees.has_kids.Given as goal

abbrev pub invariant-loop-kid : goal.invariant-loop-kid
invariant-loop-kid l = list_all (has_kid l.found) l.kids ≡ list_all (has_kid l.found) (drop l.kid-index l.kids)
