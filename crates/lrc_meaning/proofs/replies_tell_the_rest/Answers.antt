use Rattle.lrc_meaning.proofs.EditLemmas.{replies_tell_the_rest}
use Rattle.lrc_meaning.proofs.replies_tell_the_rest.Goals as goal

pub returns : goal.returns
returns c = replies_tell_the_rest
