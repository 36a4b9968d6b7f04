use Rattle.std.proofs.Common.{refl}
use Rattle.lrc_meaning.proofs.ExpressionLemmas.{expression_equations}
use Rattle.lrc_meaning.proofs.examples_are_well_formed.Goals as goal

pub returns-clause-sums : goal.returns-clause-sums
returns-clause-sums c = simp expression_equations refl

pub returns-clause-declarations : goal.returns-clause-declarations
returns-clause-declarations c = simp expression_equations refl
