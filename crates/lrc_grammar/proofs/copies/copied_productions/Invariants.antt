use Rattle.std.proofs.Common.{◌≡◌, take}
use Rattle.lrc_grammar.proofs.copies.copied_productions.Given as goal

abbrev pub invariant-loop-production : goal.invariant-loop-production
invariant-loop-production l = l.copies.items ≡ take l.production-index l.prods
