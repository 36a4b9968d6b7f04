use Rattle.std.proofs.Common.{subst, sym}
use Rattle.lrc_store.proofs.Lasting.{reads-then}
use Rattle.lrc_store.specs.Standing.{Stands}
use Rattle.lrc_code.specs.Forms.{tree_cell}
use Rattle.lrc_call_meaning.specs.Forms.{values_cell}
use Rattle.lrc_visit_tests.proofs.SessionLemmas.{open_later, first_of, known_of}
use Rattle.lrc_visit_tests.proofs.sessions.first_number.Goals as goal

pub attribute-handle-requires : goal.attribute-handle-requires
attribute-handle-requires g c =
    let (functions, opened) = c.requires in
    let (whole, vs, has) = opened in
    let s = g.St.Store.state c.args.store.now in
    let t = g.St.Store.state c.has_values.new.store in (
      functions,
      whole,
      vs,
      open_later functions s t c.args.session.now whole vs c.has_values.ensures.reads.stays.lasts has,
      c.has_values.ensures.some vs (subst (λ h. Stands s h.0 (values_cell vs)) (sym c.values.ensures) has.values) c.if-has_values.true,
    )

pub number-requires : goal.number-requires
number-requires g c =
    let (functions, opened) = c.requires in
    let (whole, vs, has) = opened in
    let s = g.St.Store.state c.args.store.now in
    let t = g.St.Store.state c.has_values.new.store in
    let u = g.St.Store.state c.attribute-handle.new.store in
    let some = c.has_values.ensures.some vs (subst (λ h. Stands s h.0 (values_cell vs)) (sym c.values.ensures) has.values) c.if-has_values.true in
    let first = first_of vs some in
    known_of u c.attribute-handle.result.0 (tree_cell first.0)
    (c.attribute-handle.ensures.value functions whole vs first.0 (open_later functions s t c.args.session.now whole vs c.has_values.ensures.reads.stays.lasts has) first.1)

pub returns-then-has_values-clause-reads : goal.returns-then-has_values-clause-reads
returns-then-has_values-clause-reads g c =
    let s = g.St.Store.state c.args.store.now in
    let t = g.St.Store.state c.has_values.new.store in
    let u = g.St.Store.state c.attribute-handle.new.store in
    let v = g.St.Store.state c.number.new.store in
    reads-then s u v (reads-then s t u c.has_values.ensures.reads c.attribute-handle.ensures.reads) c.number.ensures.reads
