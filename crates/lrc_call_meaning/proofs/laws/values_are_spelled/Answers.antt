use Rattle.lrc_call_meaning.proofs.ValueLemmas.{value-fine}
use Rattle.lrc_call_meaning.proofs.laws.values_are_spelled.Goals as goal

pub returns : goal.returns
returns c = λ values leaves e all each literals. value-fine values leaves all each e literals
