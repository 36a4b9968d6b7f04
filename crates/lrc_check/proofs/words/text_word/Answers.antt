use Rattle.lrc_check.proofs.NameLemmas.{text_is_name}
use Rattle.lrc_check.proofs.words.text_word.Goals as goal

pub unreachable-requires : goal.unreachable-requires
unreachable-requires c = c.in-None.ensures text_is_name
