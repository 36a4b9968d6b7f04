use Rattle.std.proofs.Common.{◌∙◌, ◌+◌, ◌≤◌, length, refl, sym, ap, subst, arith}
use Rattle.lrc_base.specs.Terms.{forest, Fits}
use Rattle.lrc_meaning.specs.Tree.{tree}
use Rattle.lrc_store.proofs.Lasting.{adds-same}
use Rattle.lrc_code.specs.Forms.{tree_cell, item_cell}
use Rattle.lrc_code.proofs.Growing.{adds-behind, more-stopped, built}
use Rattle.lrc_code.proofs.StackLemmas.{AreTold, told-known, told-none, told-one}
use Rattle.lrc_code.proofs.FlatLemmas.{cells_at, cells-none, cells-all, parts-at, item-within, item-below}
use Rattle.lrc_code.proofs.TurnLemmas.{enough-held, room-to-push, as-told, told-then}
use Rattle.lrc_code.proofs.terms.put_term.Goals as goal

pub loop-item-init : goal.loop-item-init
loop-item-init g c = record {
  told = told-none (g.St.Store.state c.args.store.now) c.clear.new.self.held _ c.clear.ensures.held (cells-none c.as_slice-item-items.result.now);
  room = c.clear.ensures.room;
  adds = adds-same _ _;
  same_meaning = refl;
}

pub put_item-requires-clause-enough : goal.put_item-requires-clause-enough
put_item-requires-clause-enough g c =
    let items = c.as_slice-item-items.result.now in
    let fits = subst Fits (sym c.as_slice-item-items.ensures) c.items.ensures.fits in
    enough-held (g.St.Store.state c.loop-item.store) items c.loop-item.item-index c.item-item.result c.loop-item.stack.held c.loop-item-test.true c.item-item.is c.loop-item.invariant.told fits

pub put_item-requires-clause-below : goal.put_item-requires-clause-below
put_item-requires-clause-below g c =
    let items = c.as_slice-item-items.result.now in
    let k = c.loop-item.item-index in
    let term = c.args.term.now in
    let room = c.args.stack.now.room in
    let fits = subst Fits (sym c.as_slice-item-items.ensures) c.items.ensures.fits in
    let trees = ap forest c.as_slice-item-items.ensures ∙ c.items.ensures.trees in
    let are = parts-at items (k + 1) term room trees fits c.requires.below c.requires.few c.requires.room c.requires.some_room in
    item-below (tree_cell (tree term)) room items k c.item-item.result c.loop-item-test.true c.item-item.is are

pub put_item-requires-clause-known : goal.put_item-requires-clause-known
put_item-requires-clause-known g c = told-known (g.St.Store.state c.loop-item.store) c.loop-item.stack.held _ c.loop-item.invariant.told

pub returns-in_err-handle-clause-builds : goal.returns-in_err-handle-clause-builds
returns-in_err-handle-clause-builds g c =
    let o = g.St.Store.state c.args.store.now in
    let s = g.St.Store.state c.loop-item.store in
    let t = g.St.Store.state c.put_item.new.store in
    let items = c.as_slice-item-items.result.now in
    let k = c.loop-item.item-index in
    let item = c.item-item.result in
    let term = c.args.term.now in
    let room = c.args.stack.now.room in
    let fits = subst Fits (sym c.as_slice-item-items.ensures) c.items.ensures.fits in
    let trees = ap forest c.as_slice-item-items.ensures ∙ c.items.ensures.trees in
    let are = parts-at items (k + 1) term room trees fits c.requires.below c.requires.few c.requires.room c.requires.some_room in
    more-stopped o s t (item_cell item (cells_at items k)) (tree_cell (tree term)) c.in_err-handle.field-0.0 c.from_residual.result
    (item-within (tree_cell (tree term)) room items k item c.loop-item-test.true c.item-item.is are) c.loop-item.invariant.adds c.from_residual.ensures.0
    (as-told s items k item c.loop-item.stack.held c.loop-item-test.true c.item-item.is c.loop-item.invariant.told t _ c.in_err-handle.ensures.builds)

pub push-requires : goal.push-requires
push-requires g c =
    let s = g.St.Store.state c.loop-item.store in
    let items = c.as_slice-item-items.result.now in
    let k = c.loop-item.item-index in
    let item = c.item-item.result in
    let term = c.args.term.now in
    let room = c.args.stack.now.room in
    let fits = subst Fits (sym c.as_slice-item-items.ensures) c.items.ensures.fits in
    let trees = ap forest c.as_slice-item-items.ensures ∙ c.items.ensures.trees in
    let are = parts-at items (k + 1) term room trees fits c.requires.below c.requires.few c.requires.room c.requires.some_room in
    let fit = room-to-push s items k item c.loop-item.stack.held c.loop-item-test.true c.item-item.is c.loop-item.invariant.told (tree_cell (tree term)) room c.put_item.new.stack.held are c.in_ok-handle.ensures.rest in
    let same = c.in_ok-handle.ensures.room ∙ c.loop-item.invariant.room in
    omega (arith, fit, same)

pub loop-item-preserved : goal.loop-item-preserved
loop-item-preserved g c =
    let o = g.St.Store.state c.args.store.now in
    let s = g.St.Store.state c.loop-item.store in
    let t = g.St.Store.state c.put_item.new.store in
    let items = c.as_slice-item-items.result.now in
    let k = c.loop-item.item-index in
    let item = c.item-item.result in
    let held = c.loop-item.stack.held in
    let term = c.args.term.now in
    let room = c.args.stack.now.room in
    let fits = subst Fits (sym c.as_slice-item-items.ensures) c.items.ensures.fits in
    let trees = ap forest c.as_slice-item-items.ensures ∙ c.items.ensures.trees in
    let are = parts-at items (k + 1) term room trees fits c.requires.below c.requires.few c.requires.room c.requires.some_room in
    let builds = as-told s items k item held c.loop-item-test.true c.item-item.is c.loop-item.invariant.told t _ c.in_ok-handle.ensures.builds in
    record {
      told = told-then s items k item held c.loop-item-test.true c.item-item.is c.loop-item.invariant.told t c.put_item.new.stack.held c.push.new.self.held c.in_ok-handle.handle builds c.in_ok-handle.ensures.rest c.push.ensures.held;
      room = c.push.ensures.room ∙ c.in_ok-handle.ensures.room ∙ c.loop-item.invariant.room;
      adds = adds-behind o s t (item_cell item (cells_at items k)) (tree_cell (tree term)) _
          (item-within (tree_cell (tree term)) room items k item c.loop-item-test.true c.item-item.is are) c.loop-item.invariant.adds builds;
      same_meaning = c.in_ok-handle.ensures.same_meaning ∙ c.loop-item.invariant.same_meaning;
    }

pub returns-clause-builds : goal.returns-clause-builds
returns-clause-builds g c =
    let o = g.St.Store.state c.args.store.now in
    let s = g.St.Store.state c.loop-item.store in
    let items = c.as_slice-item-items.result.now in
    let k = c.loop-item.item-index in
    let term = c.args.term.now in
    let whole = tree_cell (tree term) in
    let trees = ap forest c.as_slice-item-items.ensures ∙ c.items.ensures.trees in
    let all : length items ≤ k = omega (arith, c.loop-item-test.false) in
    let told = subst (AreTold s c.loop-item.stack.held) (cells-all items k term trees all) c.loop-item.invariant.told in
    built o s whole whole c.take_last.result refl c.loop-item.invariant.adds (told-one s c.loop-item.stack.held c.take_last.new.self.held c.take_last.result whole told c.take_last.ensures.held)
