use Rattle.lrc_parse.proofs.Parts.{exact_skip}
use Rattle.lrc_parse.proofs.combined.behind_token.Goals as goal

pub returns : goal.returns
returns g c = λ k. exact_skip g.T.Token.kind k _ _ _ c.requires
