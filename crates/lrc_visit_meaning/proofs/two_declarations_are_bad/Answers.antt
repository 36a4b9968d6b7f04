use Rattle.lrc_visit_meaning.proofs.DeclarationLemmas.{two_are_bad}
use Rattle.lrc_visit_meaning.proofs.two_declarations_are_bad.Goals as goal

pub returns : goal.returns
returns c = two_are_bad
