use Rattle.lrc_parse.proofs.Whole.{read_whole, whole_read}
use Rattle.lrc_parse.proofs.stops.whole_text_within.Goals as goal

pub returns : goal.returns
returns g c =
    let e = c.requires.exact g.G.LimitedGrammar.limits in
    λ u x. (read_whole _ _ _ _ e u x, whole_read _ _ _ _ e u x)
