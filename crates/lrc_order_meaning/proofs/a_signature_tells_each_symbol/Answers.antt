use Rattle.lrc_order_meaning.proofs.SignedLemmas.{signed_places}
use Rattle.lrc_order_meaning.proofs.a_signature_tells_each_symbol.Goals as goal

pub returns : goal.returns
returns c = signed_places
