use Rattle.lrc_parse.proofs.Parts.{exact_then}
use Rattle.lrc_parse.proofs.combined.sequence.Goals as goal

pub returns : goal.returns
returns g c = exact_then g.T.Token.kind _ _ _ _ _ _ c.requires.disjoint c.requires.first c.requires.second
