use Rattle.lrc_lex.proofs.TokensLemmas.{one_list, one_fault, never_both, each_token, some_reading}
use Rattle.lrc_lex.proofs.token_laws.Goals as goal

pub returns-clause-one_list : goal.returns-clause-one_list
returns-clause-one_list c text found others = one_list

pub returns-clause-one_fault : goal.returns-clause-one_fault
returns-clause-one_fault c text fault other = one_fault

pub returns-clause-never_both : goal.returns-clause-never_both
returns-clause-never_both c text found fault = never_both

pub returns-clause-each : goal.returns-clause-each
returns-clause-each c text found tokens = each_token text tokens.utf8 tokens.cut

pub returns-clause-some : goal.returns-clause-some
returns-clause-some c text = some_reading text
