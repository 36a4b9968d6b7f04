use Rattle.lrc_parse.proofs.Parts.{exact_optional}
use Rattle.lrc_parse.proofs.combined.optional.Goals as goal

pub returns : goal.returns
returns g c = exact_optional g.T.Token.kind _ _ _ c.requires.some c.requires.exact
