use Rattle.lrc_parse.proofs.Parts.{exact_of}
use Rattle.lrc_parse.proofs.combined.mapped.Goals as goal

pub returns : goal.returns
returns g c = λ f. exact_of g.T.Token.kind f _ _ _ c.requires
