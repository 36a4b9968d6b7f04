use Rattle.std.proofs.Common.{refl}
use Rattle.lrc_order_meaning.proofs.DeclarationsLemmas.{decls_before_env, two_visits, bad_is_in_1, env_is_in_2, decls_are_in_3}
use Rattle.lrc_order_meaning.proofs.items_have_two_visits.Goals as goal

pub returns-clause-induced : goal.returns-clause-induced
returns-clause-induced c = decls_before_env

pub returns-clause-visits : goal.returns-clause-visits
returns-clause-visits c = two_visits

pub returns-clause-decls : goal.returns-clause-decls
returns-clause-decls c = record { set = 3; in_set = decls_are_in_3; from_last = refl }

pub returns-clause-env : goal.returns-clause-env
returns-clause-env c = record { set = 2; in_set = env_is_in_2; from_last = refl }

pub returns-clause-bad : goal.returns-clause-bad
returns-clause-bad c = record { set = 1; in_set = bad_is_in_1; from_last = refl }
