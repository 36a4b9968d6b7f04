use Rattle.lrc_parse.proofs.Lists.{exact_separated_most}
use Rattle.lrc_parse.proofs.repeats.separated_most.Goals as goal

pub returns : goal.returns
returns g c = λ k n cause one d. exact_separated_most g.T.Token.kind k n _ cause _ _ one d c.requires
