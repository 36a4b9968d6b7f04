use Rattle.std.proofs.Common.{◌≡◌, map, None}
use Rattle.std.specs.List.{range_with_len}
use Rattle.lrc_grammar.proofs.signature.no_equations.Given as goal

abbrev pub invariant-loop-occurrence : goal.invariant-loop-occurrence
invariant-loop-occurrence l = l.none ≡ map (λ o. None) (range_with_len 0 l._occurrence)
