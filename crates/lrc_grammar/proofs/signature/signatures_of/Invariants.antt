use Rattle.std.proofs.Common.{◌≡◌, map, take}
use Rattle.lrc_meaning.specs.Signature.{signature_of}
use Rattle.lrc_grammar.proofs.signature.signatures_of.Given as goal

abbrev pub invariant-loop-production : goal.invariant-loop-production
invariant-loop-production l = l.all ≡ map (signature_of l.sorts) (take l.production-index l.prods)
