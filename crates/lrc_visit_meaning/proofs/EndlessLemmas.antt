-- Visits in the endless grammar.
use Rattle.std.proofs.Common.{◌≡◌, ℕ, zero, suc, None, refl}
use Rattle.lrc_graph.specs.Pairs.{paired}
use Rattle.lrc_meaning.proofs.ExpressionLemmas.{expression_equations}
use Rattle.lrc_visit_meaning.specs.Values.{root_call}
use Rattle.lrc_visit_meaning.specs.Visits.{is_call, plain_visit}
use Rattle.lrc_visit_meaning.specs.Examples.{endless, endless_partitions, loop}

pub loop_none : (fuel : ℕ) → plain_visit endless endless_partitions fuel (root_call loop) ≡ None
unfolding plain_visit paired is_call
loop_none zero = refl
loop_none (suc fuel) = simp expression_equations (rw (loop_none fuel) refl)
