use Rattle.lrc_meaning.specs.Naming.{named_equation}
use Rattle.lrc_naming.proofs.ListLemmas.{PartsFirst}
use Rattle.lrc_naming.proofs.equation.named_equations.Given as goal

abbrev pub invariant-loop-item : goal.invariant-loop-item
invariant-loop-item l = PartsFirst (named_equation l.scope) l.items l.item-index l.named
