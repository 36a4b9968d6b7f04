use Rattle.lrc_meaning.specs.Naming.{named_kid}
use Rattle.lrc_naming.proofs.ListLemmas.{NamesFirst}
use Rattle.lrc_naming.proofs.kind.named_kids.Given as goal

abbrev pub invariant-loop-kid : goal.invariant-loop-kid
invariant-loop-kid l = NamesFirst (named_kid l.sorts) l.kids l.kid-index l.named
