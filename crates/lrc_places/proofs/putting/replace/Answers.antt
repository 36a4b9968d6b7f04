use Rattle.std.proofs.Common.{◌≡◌, ◌≢◌, ◌<◌, ◌≤◌, Some, ap, ◌∙◌, rules, arith}
use Rattle.lrc_meaning.specs.Tree.{tree, tree_height}
use Rattle.lrc_meaning.proofs.HeightLemmas.{height_agrees}
use Rattle.lrc_store.proofs.Lasting.{reads-then}
use Rattle.lrc_code.specs.Forms.{tree_cell}
use Rattle.lrc_places.proofs.PlaceLemmas.{productions-below, children-few}
use Rattle.lrc_places.proofs.DeclaredLemmas.{part-kind}
use Rattle.lrc_places.proofs.BuildLemmas.{read-stands}
use Rattle.lrc_places.proofs.PutLemmas.{found, wrong-sort, too-high, put-full, put-built}
use Rattle.lrc_places.proofs.putting.replace.Goals as goal

pub kind_of-requires : goal.kind_of-requires
kind_of-requires g c =
    let (t, kind, fit, stands) = c.requires.whole in
    let steps = c.args.put.now.path.now.steps in
    let (part, there, here) = found (g.St.Store.state c.part_at.new.store) t _ steps _ c.in_ok-part.part (c.part_at.ensures.part t stands) c.in_ok-part.ensures.ok_part c.as_slice.ensures in
    (part, here, part-kind c.args.prods.now t part kind steps fit there)

pub returns-then-ne-clause-replaces : goal.returns-then-ne-clause-replaces
returns-then-ne-clause-replaces g c t kind fit stands =
    let s = g.St.Store.state c.args.store.now in
    let read = g.St.Store.state c.part_at.new.store in
    let steps = c.args.put.now.path.now.steps in
    let (part, there, here) = found read t _ steps _ c.in_ok-part.part (c.part_at.ensures.part t stands) c.in_ok-part.ensures.ok_part c.as_slice.ensures in
    let differs : c.kind_of.result ≢ c.args.put.now.kind = search rules in
    let looked = g.St.Store.state c.kind_of.new.store in
    wrong-sort c.args.prods.now t steps (tree c.args.put.now.term.now) c.args.put.now.kind c.args.limit s looked part c.kind_of.result
    (reads-then s read looked c.part_at.ensures.reads c.kind_of.ensures.reads) there (c.kind_of.ensures.kind part here) differs

pub put_at-requires-clause-whole : goal.put_at-requires-clause-whole
put_at-requires-clause-whole g c =
    let s = g.St.Store.state c.args.store.now in
    let read = g.St.Store.state c.part_at.new.store in
    let looked = g.St.Store.state c.kind_of.new.store in
    let (t, kind, fit, stands) = c.requires.whole in (
      t,
      read-stands s looked c.args.whole (tree_cell t) (reads-then s read looked c.part_at.ensures.reads c.kind_of.ensures.reads) stands,
      productions-below c.args.prods.now 65280 c.requires.few t kind fit,
    )

pub put_at-requires-clause-term : goal.put_at-requires-clause-term
put_at-requires-clause-term g c = productions-below c.args.prods.now 65280 c.requires.few (tree c.args.put.now.term.now) c.args.put.now.kind c.requires.term

pub returns-in_err-put_at-clause-replaces : goal.returns-in_err-put_at-clause-replaces
returns-in_err-put_at-clause-replaces g c t kind fit stands =
    let s = g.St.Store.state c.args.store.now in
    let read = g.St.Store.state c.part_at.new.store in
    let looked = g.St.Store.state c.kind_of.new.store in
    let steps = c.args.put.now.path.now.steps in
    let own = c.args.put.now.kind in
    let (part, there, here) = found read t _ steps _ c.in_ok-part.part (c.part_at.ensures.part t stands) c.in_ok-part.ensures.ok_part c.as_slice.ensures in
    let same : c.kind_of.result ≡ own = search rules in
    let low : tree_height (tree c.args.put.now.term.now) ≤ c.args.limit = omega (arith, height_agrees c.args.put.now.term.now, c.height.ensures, c.if-limit-height.false) in
    let reads = reads-then s read looked c.part_at.ensures.reads c.kind_of.ensures.reads in
    put-full c.args.prods.now t steps (tree c.args.put.now.term.now) own c.args.limit s looked (g.St.Store.state c.put_at.new.store)
    (record { old = part; there = there; of_kind = c.kind_of.ensures.kind part here ∙ ap Some same }) low reads
    c.in_err-put_at.field-0.0 c.from_residual-in_err-put_at.result c.from_residual-in_err-put_at.ensures.1
    (c.in_err-put_at.ensures.builds t part (read-stands s looked c.args.whole (tree_cell t) reads stands) there)

pub returns-clause-replaces : goal.returns-clause-replaces
returns-clause-replaces g c t kind fit stands =
    let s = g.St.Store.state c.args.store.now in
    let read = g.St.Store.state c.part_at.new.store in
    let looked = g.St.Store.state c.kind_of.new.store in
    let steps = c.args.put.now.path.now.steps in
    let own = c.args.put.now.kind in
    let (part, there, here) = found read t _ steps _ c.in_ok-part.part (c.part_at.ensures.part t stands) c.in_ok-part.ensures.ok_part c.as_slice.ensures in
    let same : c.kind_of.result ≡ own = search rules in
    let low : tree_height (tree c.args.put.now.term.now) ≤ c.args.limit = omega (arith, height_agrees c.args.put.now.term.now, c.height.ensures, c.if-limit-height.false) in
    let reads = reads-then s read looked c.part_at.ensures.reads c.kind_of.ensures.reads in
    put-built c.args.prods.now t steps (tree c.args.put.now.term.now) own c.args.limit s looked (g.St.Store.state c.put_at.new.store)
    (record { old = part; there = there; of_kind = c.kind_of.ensures.kind part here ∙ ap Some same }) low reads c.in_ok-put_at.field-0
    (c.in_ok-put_at.ensures.builds t part (read-stands s looked c.args.whole (tree_cell t) reads stands) there)

pub returns-then-limit-height-clause-replaces : goal.returns-then-limit-height-clause-replaces
returns-then-limit-height-clause-replaces g c t kind fit stands =
    let s = g.St.Store.state c.args.store.now in
    let read = g.St.Store.state c.part_at.new.store in
    let looked = g.St.Store.state c.kind_of.new.store in
    let steps = c.args.put.now.path.now.steps in
    let own = c.args.put.now.kind in
    let (part, there, here) = found read t _ steps _ c.in_ok-part.part (c.part_at.ensures.part t stands) c.in_ok-part.ensures.ok_part c.as_slice.ensures in
    let same : c.kind_of.result ≡ own = search rules in
    let high : c.args.limit < tree_height (tree c.args.put.now.term.now) = omega (arith, height_agrees c.args.put.now.term.now, c.height.ensures, c.if-limit-height.true) in
    too-high c.args.prods.now t steps (tree c.args.put.now.term.now) own c.args.limit s looked
    (record { old = part; there = there; of_kind = c.kind_of.ensures.kind part here ∙ ap Some same })
    (reads-then s read looked c.part_at.ensures.reads c.kind_of.ensures.reads) high

pub put_at-requires-clause-few : goal.put_at-requires-clause-few
put_at-requires-clause-few g c = children-few c.args.prods.now c.requires.parts (tree c.args.put.now.term.now) c.args.put.now.kind c.requires.term

pub put_at-requires-clause-room : goal.put_at-requires-clause-room
put_at-requires-clause-room g c = omega (arith, height_agrees c.args.put.now.term.now, c.height.ensures, c.if-limit-height.false, c.requires.room)
