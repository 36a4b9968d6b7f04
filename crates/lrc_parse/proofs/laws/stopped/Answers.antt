use Rattle.lrc_parse.proofs.Whole.{stops_none}
use Rattle.lrc_parse.proofs.laws.stopped.Goals as goal

pub returns : goal.returns
returns g c = λ u r d x h l. stops_none _ _ _ _ c.requires u r d x h l
