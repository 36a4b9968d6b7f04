-- The grammar that a `Numbered` is.
use Rattle.lrc_meaning.specs.Grammar.{Grammar}
use Rattle.lrc_naming.specs.declared.grammar.Numbered.{Numbered}

abbrev pub grammar : Numbered → Grammar
grammar n = record { sorts = n.sorts; prods = n.prods; start = n.start }
