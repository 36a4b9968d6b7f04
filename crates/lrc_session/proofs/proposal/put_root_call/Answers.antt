use Rattle.lrc_session.proofs.CallLemmas.{root_built}
use Rattle.lrc_session.proofs.proposal.put_root_call.Goals as goal

pub returns-clause-builds : goal.returns-clause-builds
returns-clause-builds g c t stands =
    root_built (g.St.Store.state c.args.store.now) (g.St.Store.state c.put_call.new.store) c.args.root.0 t c.put_call.result c.published.ensures.sound.nil_known stands c.put_call.ensures.builds
