use Rattle.lrc_parse.proofs.Whole.{rest_none}
use Rattle.lrc_parse.proofs.laws.left_over.Goals as goal

pub returns : goal.returns
returns g c = λ u r t x y h l. rest_none _ _ _ _ c.requires u r t x y h l
