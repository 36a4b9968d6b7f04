use Rattle.std.proofs.Common.{◌≡◌, ◌<◌, ℕ, true, Some, slice_get}
use Rattle.std.specs.List.{list_all}
use Rattle.lrc_base.specs.declared.grammar.Production.{Production}
use Rattle.lrc_syntax.specs.Trees.{has_sort, has_kid}
use Rattle.lrc_syntax.proofs.trees.next_sort.Given as goal

-- what the productions before this one make is found
abbrev pub invariant-loop-production : goal.invariant-loop-production
invariant-loop-production l =
    (p : ℕ) (q : Production) → p < l.production-index → slice_get l.prods p ≡ Some q → list_all (has_kid l.found) q.kids ≡ true → has_sort l.found q.left ≡ true
