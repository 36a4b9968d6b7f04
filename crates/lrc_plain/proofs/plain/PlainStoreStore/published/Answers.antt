use Rattle.lrc_plain.proofs.Standings.{sound}
use Rattle.lrc_plain.proofs.plain.PlainStoreStore.published.Goals as goal

pub returns-clause-sound : goal.returns-clause-sound
returns-clause-sound g c = sound _ _ _ c.len.ensures.memo.shelf
