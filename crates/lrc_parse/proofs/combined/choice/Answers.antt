use Rattle.lrc_parse.proofs.Parts.{exact_either}
use Rattle.lrc_parse.proofs.combined.choice.Goals as goal

pub returns : goal.returns
returns g c = exact_either g.T.Token.kind _ _ _ _ _ _ c.requires.disjoint c.requires.some c.requires.first c.requires.second
