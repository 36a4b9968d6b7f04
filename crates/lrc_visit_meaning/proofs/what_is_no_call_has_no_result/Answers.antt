use Rattle.lrc_visit_meaning.proofs.NoCallLemmas.{no_call_has_none, before_the_first, behind_the_last, one_inherits_nothing, one_is_handed_nothing, short_has_none}
use Rattle.lrc_visit_meaning.proofs.what_is_no_call_has_no_result.Goals as goal

pub returns-clause-always : goal.returns-clause-always
returns-clause-always c = no_call_has_none

pub returns-clause-before_the_first : goal.returns-clause-before_the_first
returns-clause-before_the_first c = before_the_first

pub returns-clause-behind_the_last : goal.returns-clause-behind_the_last
returns-clause-behind_the_last c = behind_the_last

pub returns-clause-inherited : goal.returns-clause-inherited
returns-clause-inherited c = one_inherits_nothing

pub returns-clause-bound : goal.returns-clause-bound
returns-clause-bound c = one_is_handed_nothing

pub returns-clause-short : goal.returns-clause-short
returns-clause-short c = short_has_none
