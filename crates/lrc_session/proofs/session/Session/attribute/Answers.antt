use Rattle.lrc_session.proofs.CallLemmas.{value_there, value_read}
use Rattle.lrc_session.proofs.session.Session.attribute.Goals as goal

pub item_of-requires-clause-item : goal.item_of-requires-clause-item
item_of-requires-clause-item g c =
    let (functions, t, vs, has, less) = c.requires in
    value_there (g.St.Store.state c.args.store.now) c.args.self.now.values.0 c.args.i vs has.values less

pub returns-clause-value : goal.returns-clause-value
returns-clause-value g c functions t vs v has at =
    value_read (g.St.Store.state c.args.store.now) (g.St.Store.state c.item_of.new.store) c.args.self.now.values.0 c.args.i c.item_of.result.0 vs v has.values at c.item_of.ensures.known c.item_of.ensures.item
