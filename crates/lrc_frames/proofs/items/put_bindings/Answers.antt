use Rattle.std.proofs.Common.{◌∙◌, length, map}
use Rattle.lrc_store.proofs.Known.{stands-known}
use Rattle.lrc_code.specs.Forms.{list_cell}
use Rattle.lrc_frames.proofs.MadeLemmas.{next-list, item-stopped, list-stopped, list-more}
use Rattle.lrc_frames.proofs.items.put_bindings.Goals as goal

pub put_items-requires : goal.put_items-requires
put_items-requires g c =
    let o = g.St.Store.state c.args.store.now in
    let s = g.St.Store.state c.loop-done.store in
    let made = c.loop-done.invariant.made c.requires.0 c.requires.1 in
    let list = next-list o s c.args.frame.now c.args.lists.now c.requires.0 c.loop-done.list.0 c.loop-done.done c.index-lists-lists.result c.as_slice.result.now made c.requires.1 c.loop-done-test.true c.index-lists-lists.is c.as_slice.ensures in
    (list.cells, list.held)

pub returns-in_err-binding-clause-builds : goal.returns-in_err-binding-clause-builds
returns-in_err-binding-clause-builds g c rows held =
    let o = g.St.Store.state c.args.store.now in
    let s = g.St.Store.state c.loop-done.store in
    let made = c.loop-done.invariant.made rows held in
    let list = next-list o s c.args.frame.now c.args.lists.now rows c.loop-done.list.0 c.loop-done.done c.index-lists-lists.result c.as_slice.result.now made held c.loop-done-test.true c.index-lists-lists.is c.as_slice.ensures in
    item-stopped o s (g.St.Store.state c.put_items.new.store) c.loop-done.list (map list_cell rows) (length c.args.lists.now) c.loop-done.done (list_cell list.cells) made c.loop-done-test.true list.at
    _ _ c.from_residual.ensures.0 (c.in_err-binding.ensures.builds list.cells list.held)

pub put_list-requires-clause-first_known : goal.put_list-requires-clause-first_known
put_list-requires-clause-first_known g c =
    let o = g.St.Store.state c.args.store.now in
    let s = g.St.Store.state c.loop-done.store in
    let made = c.loop-done.invariant.made c.requires.0 c.requires.1 in
    let list = next-list o s c.args.frame.now c.args.lists.now c.requires.0 c.loop-done.list.0 c.loop-done.done c.index-lists-lists.result c.as_slice.result.now made c.requires.1 c.loop-done-test.true c.index-lists-lists.is c.as_slice.ensures in
    stands-known (g.St.Store.state c.put_items.new.store) c.in_ok-binding.binding.0 (list_cell list.cells) (c.in_ok-binding.ensures.builds list.cells list.held).ok.stands

pub put_list-requires-clause-rest_known : goal.put_list-requires-clause-rest_known
put_list-requires-clause-rest_known g c =
    let o = g.St.Store.state c.args.store.now in
    let s = g.St.Store.state c.loop-done.store in
    let made = c.loop-done.invariant.made c.requires.0 c.requires.1 in
    let list = next-list o s c.args.frame.now c.args.lists.now c.requires.0 c.loop-done.list.0 c.loop-done.done c.index-lists-lists.result c.as_slice.result.now made c.requires.1 c.loop-done-test.true c.index-lists-lists.is c.as_slice.ensures in
    stands-known (g.St.Store.state c.put_items.new.store) c.loop-done.list.0 _ ((c.in_ok-binding.ensures.builds list.cells list.held).adds.gains.lasts.known c.loop-done.list.0 _ made.tells.stands)

pub returns-in_err-list-clause-builds : goal.returns-in_err-list-clause-builds
returns-in_err-list-clause-builds g c rows held =
    let o = g.St.Store.state c.args.store.now in
    let s = g.St.Store.state c.loop-done.store in
    let made = c.loop-done.invariant.made rows held in
    let list = next-list o s c.args.frame.now c.args.lists.now rows c.loop-done.list.0 c.loop-done.done c.index-lists-lists.result c.as_slice.result.now made held c.loop-done-test.true c.index-lists-lists.is c.as_slice.ensures in
    list-stopped o s (g.St.Store.state c.put_items.new.store) c.loop-done.list (map list_cell rows) (length c.args.lists.now) c.loop-done.done (list_cell list.cells) made c.loop-done-test.true list.at
    (g.St.Store.state c.put_list.new.store) c.in_ok-binding.binding (c.in_ok-binding.ensures.builds list.cells list.held) _ _ c.from_residual-in_err-list.ensures.0 c.in_err-list.ensures.builds

pub loop-done-preserved : goal.loop-done-preserved
loop-done-preserved g c = record {
  made = λ rows held.
      let o = g.St.Store.state c.args.store.now in
      let s = g.St.Store.state c.loop-done.store in
      let made = c.loop-done.invariant.made rows held in
      let list = next-list o s c.args.frame.now c.args.lists.now rows c.loop-done.list.0 c.loop-done.done c.index-lists-lists.result c.as_slice.result.now made held c.loop-done-test.true c.index-lists-lists.is c.as_slice.ensures in
      list-more o s (g.St.Store.state c.put_items.new.store) c.loop-done.list (map list_cell rows) (length c.args.lists.now) c.loop-done.done (list_cell list.cells) made c.loop-done-test.true list.at
      (g.St.Store.state c.put_list.new.store) c.in_ok-binding.binding (c.in_ok-binding.ensures.builds list.cells list.held) c.in_ok-list.list c.in_ok-list.ensures.builds;
  same_meaning = c.in_ok-list.ensures.same_meaning ∙ c.in_ok-binding.ensures.same_meaning ∙ c.loop-done.invariant.same_meaning;
}
