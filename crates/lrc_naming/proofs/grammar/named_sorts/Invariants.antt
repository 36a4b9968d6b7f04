use Rattle.lrc_meaning.specs.Naming.{named_sort}
use Rattle.lrc_naming.proofs.ListLemmas.{NamesFirst}
use Rattle.lrc_naming.proofs.grammar.named_sorts.Given as goal

abbrev pub invariant-loop-sort : goal.invariant-loop-sort
invariant-loop-sort l = NamesFirst (named_sort l.sorts) l.sorts l.sort-index l.named
