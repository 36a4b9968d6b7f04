use Rattle.std.proofs.Common.{◌≡◌, length}
use Rattle.lrc_grammar.proofs.SignatureLemmas.{equations_from}
use Rattle.lrc_grammar.proofs.signature.equations_of.Given as goal

abbrev pub invariant-loop-number : goal.invariant-loop-number
invariant-loop-number l = record {
  found : l.found ≡ equations_from l.equations l.number l.count;
  count : length l.found ≡ l.count;
}
