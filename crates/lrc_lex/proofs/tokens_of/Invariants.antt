use Rattle.std.proofs.Common.{◌-◌, length}
use Rattle.lrc_lex.proofs.TokensLemmas.{Reads}
use Rattle.lrc_lex.proofs.tokens_of.Given as goal

abbrev pub invariant-loop-found : goal.invariant-loop-found
invariant-loop-found l = Reads l.text l.found l.at

abbrev pub decreases-loop-found : goal.decreases-loop-found
decreases-loop-found l = length l.text - l.at
