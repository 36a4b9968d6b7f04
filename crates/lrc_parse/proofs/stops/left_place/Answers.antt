use Rattle.lrc_parse.proofs.Verdict.{left_place}
use Rattle.lrc_parse.proofs.stops.left_place.Goals as goal

pub returns : goal.returns
returns g c = left_place _ _ c.requires.wide _ _ _ _ c.requires.full
