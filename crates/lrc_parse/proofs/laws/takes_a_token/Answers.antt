use Rattle.lrc_parse.proofs.Whole.{shorter}
use Rattle.lrc_parse.proofs.laws.takes_a_token.Goals as goal

pub returns : goal.returns
returns g c = λ u r x h. shorter _ _ _ _ c.requires.exact c.requires.some u r x h
