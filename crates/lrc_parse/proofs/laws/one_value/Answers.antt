use Rattle.lrc_parse.proofs.Whole.{one_value}
use Rattle.lrc_parse.proofs.laws.one_value.Goals as goal

pub returns : goal.returns
returns g c = λ u x y l m. one_value _ _ _ _ c.requires u x y l m
