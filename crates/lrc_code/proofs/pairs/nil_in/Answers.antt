use Rattle.lrc_code.proofs.Growing.{nil-told}
use Rattle.lrc_code.proofs.pairs.nil_in.Goals as goal

pub returns : goal.returns
returns g c = nil-told _ c.published.ensures.sound.nil_known
