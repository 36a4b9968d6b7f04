use Rattle.std.proofs.Common.{◌≡◌, drop}
use Rattle.std.specs.List.{list_all}
use Rattle.lrc_syntax.specs.Faults.{is_sort_kid}
use Rattle.lrc_syntax.proofs.bare.are_sorts.Given as goal

abbrev pub invariant-loop-kid : goal.invariant-loop-kid
invariant-loop-kid l = list_all is_sort_kid l.kids ≡ list_all is_sort_kid (drop l.kid-index l.kids)
