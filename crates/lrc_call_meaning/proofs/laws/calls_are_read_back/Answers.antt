use Rattle.lrc_call_meaning.proofs.DecodingLemmas.{call-back, result-back}
use Rattle.lrc_call_meaning.proofs.laws.calls_are_read_back.Goals as goal

pub returns-clause-calls : goal.returns-clause-calls
returns-clause-calls c = call-back

pub returns-clause-results : goal.returns-clause-results
returns-clause-results c = result-back
