use Rattle.lrc_parse.proofs.Parts.{exact_one}
use Rattle.lrc_parse.proofs.combined.one_token.Goals as goal

pub returns : goal.returns
returns g c = λ kinds value among. exact_one g.T.Token.kind kinds value among
