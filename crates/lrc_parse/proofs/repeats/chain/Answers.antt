use Rattle.lrc_parse.proofs.Lists.{exact_chain}
use Rattle.lrc_parse.proofs.repeats.chain.Goals as goal

pub returns : goal.returns
returns g c = λ f. exact_chain g.T.Token.kind f _ _ _ _ _ _ c.requires.some c.requires.disjoint c.requires.behind c.requires.first c.requires.second
