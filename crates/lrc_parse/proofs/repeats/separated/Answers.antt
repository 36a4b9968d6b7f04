use Rattle.lrc_parse.proofs.Lists.{exact_separated}
use Rattle.lrc_parse.proofs.repeats.separated.Goals as goal

pub returns : goal.returns
returns g c = λ k d. exact_separated g.T.Token.kind k _ _ _ d c.requires
