use Rattle.lrc_meaning.specs.Naming.{named_extra}
use Rattle.lrc_naming.proofs.ListLemmas.{PartsFirst}
use Rattle.lrc_naming.proofs.extra.named_extras.Given as goal

abbrev pub invariant-loop-item : goal.invariant-loop-item
invariant-loop-item l = PartsFirst (named_extra l.sorts) l.items l.item-index l.named
