use Rattle.lrc_parse.proofs.Lists.{exact_folded_most}
use Rattle.lrc_parse.proofs.repeats.folded_most.Goals as goal

pub returns : goal.returns
returns g c = λ k n cause f one d. exact_folded_most g.T.Token.kind k n _ cause f _ _ one d c.requires
