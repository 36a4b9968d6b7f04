use Rattle.std.proofs.Common.{refl}
use Rattle.lrc_graph.specs.Pairs.{paired}
use Rattle.lrc_meaning.proofs.ExpressionLemmas.{expression_equations}
use Rattle.lrc_visit_meaning.specs.Visits.{is_call, plain_visit}
use Rattle.lrc_visit_meaning.proofs.EndlessLemmas.{loop_none}
use Rattle.lrc_visit_meaning.proofs.endless_expansion.Goals as goal

pub returns-clause-one : goal.returns-clause-one
unfolding plain_visit paired is_call
returns-clause-one c = simp expression_equations refl

pub returns-clause-endless : goal.returns-clause-endless
returns-clause-endless c = loop_none
