use Rattle.lrc_plan_meaning.proofs.DeclarationLemmas.{top_is, declaration_is, declaration_hands}
use Rattle.lrc_plan_meaning.proofs.declarations_are_visited_twice.Goals as goal

pub returns-clause-top : goal.returns-clause-top
returns-clause-top c = top_is

pub returns-clause-declaration : goal.returns-clause-declaration
returns-clause-declaration c = declaration_is

pub returns-clause-binding : goal.returns-clause-binding
returns-clause-binding c = declaration_hands
