use Rattle.lrc_parse.proofs.Parts.{exact_fixed}
use Rattle.lrc_parse.proofs.combined.fixed_token.Goals as goal

pub returns : goal.returns
returns g c = λ k. exact_fixed g.T.Token.kind k
