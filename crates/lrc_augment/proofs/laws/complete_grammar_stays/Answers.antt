use Rattle.lrc_augment.proofs.CompleteLemmas.{complete_stays}
use Rattle.lrc_augment.proofs.laws.complete_grammar_stays.Goals as goal

pub returns : goal.returns
returns c = complete_stays
