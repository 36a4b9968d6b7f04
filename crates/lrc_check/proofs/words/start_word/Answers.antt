use Rattle.lrc_check.proofs.NameLemmas.{start_is_name}
use Rattle.lrc_check.proofs.words.start_word.Goals as goal

pub unreachable-requires : goal.unreachable-requires
unreachable-requires c = c.in-None.ensures start_is_name
