use Rattle.lrc_meaning.specs.Naming.{named_production}
use Rattle.lrc_naming.proofs.ListLemmas.{NamesFirst}
use Rattle.lrc_naming.proofs.grammar.named_productions.Given as goal

abbrev pub invariant-loop-prod : goal.invariant-loop-prod
invariant-loop-prod l = NamesFirst (named_production l.raw l.sorts) l.raw.prods l.prod-index l.named
