-- The grammar that a `Grammar` is.
use Rattle.lrc_meaning.specs.Grammar as meaning
use Rattle.lrc_grammar.specs.declared.grammar.Grammar.{Grammar}

abbrev pub grammar_of : Grammar → meaning.Grammar
grammar_of g = record { sorts = g.sorts; prods = g.prods; start = g.start }
