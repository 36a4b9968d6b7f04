use Rattle.lrc_meaning.specs.Naming.{named_attr}
use Rattle.lrc_naming.proofs.ListLemmas.{NamesFirst}
use Rattle.lrc_naming.proofs.kind.named_attrs.Given as goal

abbrev pub invariant-loop-attr : goal.invariant-loop-attr
invariant-loop-attr l = NamesFirst (named_attr l.sorts) l.attrs l.attr-index l.named
