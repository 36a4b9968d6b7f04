use Rattle.lrc_store.proofs.Known.{kept-meant, stands-meant}
use Rattle.lrc_code.proofs.Growing.{right-within, builds-stopped, pair-then}
use Rattle.lrc_code.proofs.calls.put_call.Goals as goal

pub returns-in_err-lists-clause-builds : goal.returns-in_err-lists-clause-builds
returns-in_err-lists-clause-builds g c =
    builds-stopped _ _ _ _ _ _ (right-within _ _ _) c.from_residual.ensures.0 c.in_err-lists.ensures.builds

pub returns-clause-builds : goal.returns-clause-builds
returns-clause-builds g c =
    let s = g.St.Store.state c.args.store.now in
    let t = g.St.Store.state c.put_pair.new.store in
    let lists = c.in_ok-lists.ensures.builds in
    pair-then s t _ _ c.args.tree.0 c.in_ok-lists.lists.0 _ _ _ _ _
    (kept-meant s t c.args.tree.0 lists.adds.gains.lasts.known c.requires.tree_known)
    (stands-meant t c.in_ok-lists.lists.0 _ lists.ok.stands)
    (right-within _ _ _) lists c.put_pair-2.ensures.builds
