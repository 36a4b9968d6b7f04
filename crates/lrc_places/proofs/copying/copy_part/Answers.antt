use Rattle.std.proofs.Common.{◌≡◌, IsSome, refl, sym, ◌∙◌, subst}
use Rattle.std.proofs.lemmas.Bool.Decides.{not_from_Decides}
use Rattle.lrc_meaning.specs.Tree.{kind_of}
use Rattle.lrc_store.proofs.Lasting.{reads-then}
use Rattle.lrc_code.specs.Forms.{tree_cell}
use Rattle.lrc_places.proofs.PlaceLemmas.{productions-below}
use Rattle.lrc_places.proofs.BuildLemmas.{read-stands}
use Rattle.lrc_places.proofs.PutLemmas.{along}
use Rattle.lrc_places.proofs.CopyLemmas.{found-kind, missing, found-none, copied-to-nowhere, copied-other-kind, copied-full, copied-built}
use Rattle.lrc_places.proofs.copying.copy_part.Goals as goal

pub returns-in_err-old-clause-copies : goal.returns-in_err-old-clause-copies
returns-in_err-old-clause-copies g c t sort fit stands =
    let prods = c.args.prods.now in
    let s = g.St.Store.state c.args.store.now in
    let a = g.St.Store.state c.part_at.new.store in
    let b = g.St.Store.state c.part_at-2.new.store in
    let (new, kind, there, of_kind, here) = found-kind prods a t sort _ c.args.from.now.steps _ c.in_ok-part.part fit (c.part_at.ensures.part t stands) c.in_ok-part.ensures.ok_part c.as_slice.ensures in
    let (none, is) = missing _ c.in_err-old.field-0.0 c.from_residual-in_err-old.result c.in_err-old.ensures.value c.from_residual-in_err-old.ensures.1 in
    copied-to-nowhere prods t c.args.from.now.steps c.args.to.now.steps new kind there of_kind s b c.from_residual-in_err-old.result is
    (found-none b t _ c.args.to.now.steps _ (c.part_at-2.ensures.part t (read-stands s a c.args.whole (tree_cell t) c.part_at.ensures.reads stands)) none c.as_slice-2.ensures)
    (reads-then s a b c.part_at.ensures.reads c.part_at-2.ensures.reads)

pub are_of_one_kind-requires-clause-one : goal.are_of_one_kind-requires-clause-one
are_of_one_kind-requires-clause-one g c =
    let prods = c.args.prods.now in
    let s = g.St.Store.state c.args.store.now in
    let a = g.St.Store.state c.part_at.new.store in
    let b = g.St.Store.state c.part_at-2.new.store in
    let (t, sort, fit, stands) = c.requires.whole in
    let (new, kind, there, of_kind, here) = found-kind prods a t sort _ c.args.from.now.steps _ c.in_ok-part.part fit (c.part_at.ensures.part t stands) c.in_ok-part.ensures.ok_part c.as_slice.ensures in
    let shared = read-stands a b c.in_ok-part.part (tree_cell new) c.part_at-2.ensures.reads here in
    (new, shared, subst IsSome (sym of_kind) refl)

pub are_of_one_kind-requires-clause-other : goal.are_of_one_kind-requires-clause-other
are_of_one_kind-requires-clause-other g c =
    let prods = c.args.prods.now in
    let s = g.St.Store.state c.args.store.now in
    let a = g.St.Store.state c.part_at.new.store in
    let b = g.St.Store.state c.part_at-2.new.store in
    let (t, sort, fit, stands) = c.requires.whole in
    let standing = read-stands s a c.args.whole (tree_cell t) c.part_at.ensures.reads stands in
    let (old, other, at, of_other, below) = found-kind prods b t sort _ c.args.to.now.steps _ c.in_ok-old.old fit (c.part_at-2.ensures.part t standing) c.in_ok-old.ensures.ok_part c.as_slice-2.ensures in
    (old, below, subst IsSome (sym of_other) refl)

pub returns-then-not-are_of_one_kind-clause-copies : goal.returns-then-not-are_of_one_kind-clause-copies
returns-then-not-are_of_one_kind-clause-copies g c t sort fit stands =
    let prods = c.args.prods.now in
    let s = g.St.Store.state c.args.store.now in
    let a = g.St.Store.state c.part_at.new.store in
    let b = g.St.Store.state c.part_at-2.new.store in
    let l = g.St.Store.state c.are_of_one_kind.new.store in
    let (new, kind, there, of_kind, here) = found-kind prods a t sort _ c.args.from.now.steps _ c.in_ok-part.part fit (c.part_at.ensures.part t stands) c.in_ok-part.ensures.ok_part c.as_slice.ensures in
    let shared = read-stands a b c.in_ok-part.part (tree_cell new) c.part_at-2.ensures.reads here in
    let standing = read-stands s a c.args.whole (tree_cell t) c.part_at.ensures.reads stands in
    let (old, other, at, of_other, below) = found-kind prods b t sort _ c.args.to.now.steps _ c.in_ok-old.old fit (c.part_at-2.ensures.part t standing) c.in_ok-old.ensures.ok_part c.as_slice-2.ensures in
    let reads = reads-then s b l (reads-then s a b c.part_at.ensures.reads c.part_at-2.ensures.reads) c.are_of_one_kind.ensures.reads in
    let differs = not_from_Decides c.are_of_one_kind.result (c.are_of_one_kind.ensures.same new old shared below) c.if-not-are_of_one_kind.true in
    copied-other-kind prods t c.args.from.now.steps c.args.to.now.steps new kind there of_kind s l old reads at differs

pub replaced-requires-clause-tree : goal.replaced-requires-clause-tree
replaced-requires-clause-tree g c =
    let prods = c.args.prods.now in
    let s = g.St.Store.state c.args.store.now in
    let a = g.St.Store.state c.part_at.new.store in
    let b = g.St.Store.state c.part_at-2.new.store in
    let l = g.St.Store.state c.are_of_one_kind.new.store in
    let (t, sort, fit, stands) = c.requires.whole in
    let reads = reads-then s b l (reads-then s a b c.part_at.ensures.reads c.part_at-2.ensures.reads) c.are_of_one_kind.ensures.reads in
    (t, read-stands s l c.args.whole (tree_cell t) reads stands, productions-below prods 65280 c.requires.few t sort fit)

pub replaced-requires-clause-part : goal.replaced-requires-clause-part
replaced-requires-clause-part g c =
    let prods = c.args.prods.now in
    let s = g.St.Store.state c.args.store.now in
    let a = g.St.Store.state c.part_at.new.store in
    let b = g.St.Store.state c.part_at-2.new.store in
    let l = g.St.Store.state c.are_of_one_kind.new.store in
    let (t, sort, fit, stands) = c.requires.whole in
    let (new, kind, there, of_kind, here) = found-kind prods a t sort _ c.args.from.now.steps _ c.in_ok-part.part fit (c.part_at.ensures.part t stands) c.in_ok-part.ensures.ok_part c.as_slice.ensures in
    let shared = read-stands a b c.in_ok-part.part (tree_cell new) c.part_at-2.ensures.reads here in
    (new, read-stands b l c.in_ok-part.part (tree_cell new) c.are_of_one_kind.ensures.reads shared)

pub returns-in_err-replaced-clause-copies : goal.returns-in_err-replaced-clause-copies
returns-in_err-replaced-clause-copies g c t sort fit stands =
    let prods = c.args.prods.now in
    let s = g.St.Store.state c.args.store.now in
    let a = g.St.Store.state c.part_at.new.store in
    let b = g.St.Store.state c.part_at-2.new.store in
    let l = g.St.Store.state c.are_of_one_kind.new.store in
    let u = g.St.Store.state c.replaced.new.store in
    let steps = c.args.to.now.steps in
    let (new, kind, there, of_kind, here) = found-kind prods a t sort _ c.args.from.now.steps _ c.in_ok-part.part fit (c.part_at.ensures.part t stands) c.in_ok-part.ensures.ok_part c.as_slice.ensures in
    let shared = read-stands a b c.in_ok-part.part (tree_cell new) c.part_at-2.ensures.reads here in
    let standing = read-stands s a c.args.whole (tree_cell t) c.part_at.ensures.reads stands in
    let (old, other, at, of_other, below) = found-kind prods b t sort _ c.args.to.now.steps _ c.in_ok-old.old fit (c.part_at-2.ensures.part t standing) c.in_ok-old.ensures.ok_part c.as_slice-2.ensures in
    let reads = reads-then s b l (reads-then s a b c.part_at.ensures.reads c.part_at-2.ensures.reads) c.are_of_one_kind.ensures.reads in
    let same : kind_of prods new ≡ kind_of prods old = (c.are_of_one_kind.ensures.same new old shared below).0 c.if-not-are_of_one_kind.false in
    copied-full prods t c.args.from.now.steps steps new kind there of_kind s l u (record { old = old; there = at; of_kind = sym same ∙ of_kind }) reads c.in_err-replaced.field-0.0 c.from_residual-in_err-replaced.result c.from_residual-in_err-replaced.ensures.1
    (along l u t new _ steps _ c.as_slice-3.ensures
    (c.in_err-replaced.ensures.builds t new (read-stands s l c.args.whole (tree_cell t) reads stands) (read-stands b l c.in_ok-part.part (tree_cell new) c.are_of_one_kind.ensures.reads shared)))

pub returns-clause-copies : goal.returns-clause-copies
returns-clause-copies g c t sort fit stands =
    let prods = c.args.prods.now in
    let s = g.St.Store.state c.args.store.now in
    let a = g.St.Store.state c.part_at.new.store in
    let b = g.St.Store.state c.part_at-2.new.store in
    let l = g.St.Store.state c.are_of_one_kind.new.store in
    let u = g.St.Store.state c.replaced.new.store in
    let steps = c.args.to.now.steps in
    let (new, kind, there, of_kind, here) = found-kind prods a t sort _ c.args.from.now.steps _ c.in_ok-part.part fit (c.part_at.ensures.part t stands) c.in_ok-part.ensures.ok_part c.as_slice.ensures in
    let shared = read-stands a b c.in_ok-part.part (tree_cell new) c.part_at-2.ensures.reads here in
    let standing = read-stands s a c.args.whole (tree_cell t) c.part_at.ensures.reads stands in
    let (old, other, at, of_other, below) = found-kind prods b t sort _ c.args.to.now.steps _ c.in_ok-old.old fit (c.part_at-2.ensures.part t standing) c.in_ok-old.ensures.ok_part c.as_slice-2.ensures in
    let reads = reads-then s b l (reads-then s a b c.part_at.ensures.reads c.part_at-2.ensures.reads) c.are_of_one_kind.ensures.reads in
    let same : kind_of prods new ≡ kind_of prods old = (c.are_of_one_kind.ensures.same new old shared below).0 c.if-not-are_of_one_kind.false in
    copied-built prods t c.args.from.now.steps steps new kind there of_kind s l u (record { old = old; there = at; of_kind = sym same ∙ of_kind }) reads c.in_ok-replaced.field-0
    (along l u t new _ steps _ c.as_slice-3.ensures
    (c.in_ok-replaced.ensures.builds t new (read-stands s l c.args.whole (tree_cell t) reads stands) (read-stands b l c.in_ok-part.part (tree_cell new) c.are_of_one_kind.ensures.reads shared)))
