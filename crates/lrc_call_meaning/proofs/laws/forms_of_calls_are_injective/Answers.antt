use Rattle.lrc_call_meaning.proofs.DecodingLemmas.{calls-injective, results-injective, bindings-injective}
use Rattle.lrc_call_meaning.proofs.laws.forms_of_calls_are_injective.Goals as goal

pub returns-clause-calls : goal.returns-clause-calls
returns-clause-calls c = calls-injective

pub returns-clause-results : goal.returns-clause-results
returns-clause-results c = results-injective

pub returns-clause-bindings : goal.returns-clause-bindings
returns-clause-bindings c = bindings-injective
