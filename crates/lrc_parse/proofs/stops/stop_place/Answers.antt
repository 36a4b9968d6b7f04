use Rattle.lrc_parse.proofs.Verdict.{stop_place}
use Rattle.lrc_parse.proofs.stops.stop_place.Goals as goal

pub returns : goal.returns
returns g c = stop_place _ _ c.requires.wide _ _ _ _ c.requires.full
