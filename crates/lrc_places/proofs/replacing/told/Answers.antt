use Rattle.lrc_eval.proofs.ValueLemmas.{known-told}
use Rattle.lrc_places.proofs.replacing.told.Goals as goal

pub returns : goal.returns
returns g c = known-told (g.St.Store.state c.args.store.now) c.args.handle.0 c.published.ensures.sound c.requires
