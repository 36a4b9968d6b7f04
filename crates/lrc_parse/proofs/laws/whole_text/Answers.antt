use Rattle.lrc_parse.proofs.Whole.{read_whole, whole_read}
use Rattle.lrc_parse.proofs.laws.whole_text.Goals as goal

pub returns : goal.returns
returns g c = λ u x. (read_whole _ _ _ _ c.requires u x, whole_read _ _ _ _ c.requires u x)
