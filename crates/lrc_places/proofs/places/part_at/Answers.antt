use Rattle.std.proofs.Common.{sym, ◌∙◌, subst}
use Rattle.lrc_meaning.specs.Tree.{at_place}
use Rattle.lrc_store.proofs.Lasting.{reads-then}
use Rattle.lrc_places.specs.Places.{FindsPart}
use Rattle.lrc_places.proofs.KidLemmas.{no-step, step-missing, step-taken}
use Rattle.lrc_places.proofs.places.part_at.Goals as goal

pub returns-in_default-clause-part : goal.returns-in_default-clause-part
returns-in_default-clause-part g c t stands =
    let (part, wanted, here) = c.loop-step.invariant.here t stands in
    no-step (at_place t c.args.steps.now) part c.in_default.field-0 c.args.steps.now c.loop-step.step-index c.loop-step-test.true wanted (c.in_default.ensures.shape part here)

pub returns-in_default-clause-reads : goal.returns-in_default-clause-reads
returns-in_default-clause-reads g c =
    reads-then (g.St.Store.state c.args.store.now) (g.St.Store.state c.loop-step.store) (g.St.Store.state c.shape_of.new.store) c.loop-step.invariant.reads c.shape_of.ensures.reads

pub returns-in_err-here-clause-part : goal.returns-in_err-here-clause-part
returns-in_err-here-clause-part g c t stands =
    let (part, wanted, here) = c.loop-step.invariant.here t stands in
    let (kids, of, list) = c.in-Node.ensures.shape part here in
    subst (FindsPart (g.St.Store.state c.kid_at.new.store) (at_place t c.args.steps.now)) (sym c.from_residual.ensures)
    (step-missing (at_place t c.args.steps.now) part c.in-Node.field-0 kids c.args.steps.now c.loop-step.step-index c.loop-step-test.true wanted of
    (c.in_err-here.ensures.kid kids list))

pub returns-in_err-here-clause-reads : goal.returns-in_err-here-clause-reads
returns-in_err-here-clause-reads g c =
    let s = g.St.Store.state c.loop-step.store in
    let t = g.St.Store.state c.shape_of.new.store in
    reads-then (g.St.Store.state c.args.store.now) t (g.St.Store.state c.kid_at.new.store)
    (reads-then (g.St.Store.state c.args.store.now) s t c.loop-step.invariant.reads c.shape_of.ensures.reads) c.kid_at.ensures.reads

pub loop-step-preserved : goal.loop-step-preserved
loop-step-preserved g c =
    let s = g.St.Store.state c.loop-step.store in
    let t = g.St.Store.state c.shape_of.new.store in
    let u = g.St.Store.state c.kid_at.new.store in
    record {
      here = λ whole stands.
          let (part, wanted, here) = c.loop-step.invariant.here whole stands in
          let (kids, of, list) = c.in-Node.ensures.shape part here in
          step-taken u (at_place whole c.args.steps.now) part c.in-Node.field-0 kids c.args.steps.now c.loop-step.step-index c.in_ok-here.here c.loop-step-test.true wanted of
          (c.in_ok-here.ensures.kid kids list);
      reads = reads-then (g.St.Store.state c.args.store.now) t u (reads-then (g.St.Store.state c.args.store.now) s t c.loop-step.invariant.reads c.shape_of.ensures.reads) c.kid_at.ensures.reads;
      same_meaning = c.kid_at.ensures.same_meaning ∙ c.shape_of.ensures.same_meaning ∙ c.loop-step.invariant.same_meaning;
    }
