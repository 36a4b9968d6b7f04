use Rattle.lrc_parse.proofs.Lists.{exact_most}
use Rattle.lrc_parse.proofs.repeats.repeated_most.Goals as goal

pub returns : goal.returns
returns g c = λ n cause. exact_most g.T.Token.kind n _ cause _ _ c.requires.some c.requires.disjoint c.requires.exact
