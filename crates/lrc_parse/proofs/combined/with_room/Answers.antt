use Rattle.lrc_parse.proofs.Parts.{exact_within}
use Rattle.lrc_parse.proofs.combined.with_room.Goals as goal

pub returns : goal.returns
returns g c = λ room cause. exact_within g.T.Token.kind room _ cause _ _ c.requires
