-- Within the limits a grammar is small enough for the test.
use Rattle.lrc_meaning.specs.Grammar.{Grammar}
use Rattle.lrc_meaning.specs.Limits.{IsWithinLimits}
use Rattle.lrc_order_meaning.specs.Ordered.{IsSmall}

abbrev pub FewIsSmall : Type 0
FewIsSmall = (g : Grammar) → IsWithinLimits g → IsSmall g
