use Rattle.lrc_code.proofs.Decoding.{lists-injective, names-injective, trees-injective}
use Rattle.lrc_code.proofs.laws.forms_are_injective.Goals as goal

pub returns-clause-trees : goal.returns-clause-trees
returns-clause-trees c = trees-injective

pub returns-clause-names : goal.returns-clause-names
returns-clause-names c = names-injective

pub returns-clause-lists : goal.returns-clause-lists
returns-clause-lists c = lists-injective
