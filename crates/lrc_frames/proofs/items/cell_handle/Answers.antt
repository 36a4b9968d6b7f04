use Rattle.lrc_code.specs.Forms.{tree_cell}
use Rattle.lrc_code.proofs.Growing.{builds-as}
use Rattle.lrc_frames.proofs.MadeLemmas.{handle-builds, leaf-held}
use Rattle.lrc_frames.proofs.items.cell_handle.Goals as goal

pub returns-in-Ref-clause-builds : goal.returns-in-Ref-clause-builds
returns-in-Ref-clause-builds g c cell holds =
    handle-builds (g.St.Store.state c.args.store.now) c.args.value c.in-Ref.handle cell c.in-Ref.is c.published.ensures.sound holds

pub value_handle-requires : goal.value_handle-requires
value_handle-requires g c =
    let t = leaf-held (g.St.Store.state c.args.store.now) c.args.value c.requires.0 c.in_default.not-Ref c.requires.1 in (t.0, t.1)

pub returns : goal.returns
returns g c = record {
  builds = λ cell holds.
      let t = leaf-held (g.St.Store.state c.args.store.now) c.args.value cell c.in_default.not-Ref holds in
      builds-as _ _ (tree_cell t.0) cell _ t.2 (c.value_handle.ensures.builds t.0 t.1);
  same_meaning = c.value_handle.ensures.same_meaning;
}
