use Rattle.lrc_parse.proofs.Lists.{exact_many}
use Rattle.lrc_parse.proofs.repeats.repeated.Goals as goal

pub returns : goal.returns
returns g c = exact_many g.T.Token.kind _ _ _ c.requires.some c.requires.disjoint c.requires.exact
