use Rattle.lrc_parse.proofs.Parts.{exact_empty}
use Rattle.lrc_parse.proofs.combined.no_token.Goals as goal

pub returns : goal.returns
returns g c = λ a. exact_empty g.T.Token.kind a
