use Rattle.std.proofs.Common.{◌∙◌, length}
use Rattle.lrc_store.proofs.Known.{stands-known}
use Rattle.lrc_frames.proofs.MadeLemmas.{next-held, item-stopped, list-stopped, list-more}
use Rattle.lrc_frames.proofs.items.put_items.Goals as goal

pub bounds-frame-number : goal.bounds-frame-number
bounds-frame-number g c =
    let o = g.St.Store.state c.args.store.now in
    let s = g.St.Store.state c.loop-done.store in
    let made = c.loop-done.invariant.made c.requires.0 c.requires.1 in
    (next-held o s c.args.frame.now c.args.numbers.now c.requires.0 c.loop-done.list.0 c.loop-done.done made c.requires.1 c.loop-done-test.true).within

pub cell_handle-requires : goal.cell_handle-requires
cell_handle-requires g c =
    let o = g.St.Store.state c.args.store.now in
    let s = g.St.Store.state c.loop-done.store in
    let made = c.loop-done.invariant.made c.requires.0 c.requires.1 in
    let item = next-held o s c.args.frame.now c.args.numbers.now c.requires.0 c.loop-done.list.0 c.loop-done.done made c.requires.1 c.loop-done-test.true in
    (item.cell, item.holds)

pub returns-in_err-item-clause-builds : goal.returns-in_err-item-clause-builds
returns-in_err-item-clause-builds g c cells held =
    let o = g.St.Store.state c.args.store.now in
    let s = g.St.Store.state c.loop-done.store in
    let made = c.loop-done.invariant.made cells held in
    let item = next-held o s c.args.frame.now c.args.numbers.now cells c.loop-done.list.0 c.loop-done.done made held c.loop-done-test.true in
    item-stopped o s (g.St.Store.state c.cell_handle.new.store) c.loop-done.list cells (length c.args.numbers.now) c.loop-done.done item.cell made c.loop-done-test.true item.at
    _ _ c.from_residual.ensures.0 (c.in_err-item.ensures.builds item.cell item.holds)

pub put_list-requires-clause-first_known : goal.put_list-requires-clause-first_known
put_list-requires-clause-first_known g c =
    let o = g.St.Store.state c.args.store.now in
    let s = g.St.Store.state c.loop-done.store in
    let made = c.loop-done.invariant.made c.requires.0 c.requires.1 in
    let item = next-held o s c.args.frame.now c.args.numbers.now c.requires.0 c.loop-done.list.0 c.loop-done.done made c.requires.1 c.loop-done-test.true in
    stands-known (g.St.Store.state c.cell_handle.new.store) c.in_ok-item.item.0 item.cell (c.in_ok-item.ensures.builds item.cell item.holds).ok.stands

pub put_list-requires-clause-rest_known : goal.put_list-requires-clause-rest_known
put_list-requires-clause-rest_known g c =
    let o = g.St.Store.state c.args.store.now in
    let s = g.St.Store.state c.loop-done.store in
    let made = c.loop-done.invariant.made c.requires.0 c.requires.1 in
    let item = next-held o s c.args.frame.now c.args.numbers.now c.requires.0 c.loop-done.list.0 c.loop-done.done made c.requires.1 c.loop-done-test.true in
    stands-known (g.St.Store.state c.cell_handle.new.store) c.loop-done.list.0 _ ((c.in_ok-item.ensures.builds item.cell item.holds).adds.gains.lasts.known c.loop-done.list.0 _ made.tells.stands)

pub returns-in_err-list-clause-builds : goal.returns-in_err-list-clause-builds
returns-in_err-list-clause-builds g c cells held =
    let o = g.St.Store.state c.args.store.now in
    let s = g.St.Store.state c.loop-done.store in
    let made = c.loop-done.invariant.made cells held in
    let item = next-held o s c.args.frame.now c.args.numbers.now cells c.loop-done.list.0 c.loop-done.done made held c.loop-done-test.true in
    list-stopped o s (g.St.Store.state c.cell_handle.new.store) c.loop-done.list cells (length c.args.numbers.now) c.loop-done.done item.cell made c.loop-done-test.true item.at
    (g.St.Store.state c.put_list.new.store) c.in_ok-item.item (c.in_ok-item.ensures.builds item.cell item.holds) _ _ c.from_residual-in_err-list.ensures.0 c.in_err-list.ensures.builds

pub loop-done-preserved : goal.loop-done-preserved
loop-done-preserved g c = record {
  made = λ cells held.
      let o = g.St.Store.state c.args.store.now in
      let s = g.St.Store.state c.loop-done.store in
      let made = c.loop-done.invariant.made cells held in
      let item = next-held o s c.args.frame.now c.args.numbers.now cells c.loop-done.list.0 c.loop-done.done made held c.loop-done-test.true in
      list-more o s (g.St.Store.state c.cell_handle.new.store) c.loop-done.list cells (length c.args.numbers.now) c.loop-done.done item.cell made c.loop-done-test.true item.at
      (g.St.Store.state c.put_list.new.store) c.in_ok-item.item (c.in_ok-item.ensures.builds item.cell item.holds) c.in_ok-list.list c.in_ok-list.ensures.builds;
  same_meaning = c.in_ok-list.ensures.same_meaning ∙ c.in_ok-item.ensures.same_meaning ∙ c.loop-done.invariant.same_meaning;
}
