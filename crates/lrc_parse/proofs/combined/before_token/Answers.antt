use Rattle.lrc_parse.proofs.Parts.{exact_ends}
use Rattle.lrc_parse.proofs.combined.before_token.Goals as goal

pub returns : goal.returns
returns g c = λ k d. exact_ends g.T.Token.kind _ _ _ k d c.requires
