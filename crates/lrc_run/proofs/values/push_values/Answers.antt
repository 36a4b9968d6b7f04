use Rattle.std.proofs.Common.{◌∙◌, ◌++◌}
use Rattle.lrc_meaning.specs.Text.{named_values, synthesised_attrs}
use Rattle.lrc_store.proofs.Lasting.{reads-then}
use Rattle.lrc_run.proofs.ValueLemmas.{appended}
use Rattle.lrc_run.proofs.values.push_values.Goals as goal

pub returns-in_err-rest-clause-reads : goal.returns-in_err-rest-clause-reads
returns-in_err-rest-clause-reads g c = reads-then _ _ _ c.loop-attr.invariant.reads c.push_first.ensures.reads

pub returns-in-None-clause-reads : goal.returns-in-None-clause-reads
returns-in-None-clause-reads g c = reads-then _ _ _ c.loop-attr.invariant.reads c.push_first.ensures.reads

pub loop-attr-preserved : goal.loop-attr-preserved
loop-attr-preserved g c =
    let s = g.St.Store.state c.loop-attr.store in
    let u = g.St.Store.state c.push_first.new.store in
    record {
      left = λ vs spelled stands.
          let whole = c.args.text.now.items ++ named_values c.args.grammar.now.prods (synthesised_attrs c.args.attrs.now) vs in
          let so_far = c.loop-attr.invariant.left vs spelled stands in
          appended c.args.grammar.now.prods c.args.attrs.now c.loop-attr.attr-index c.attr-item.result c.loop-attr-test.true c.attr-item.is whole s u c.loop-attr.left.0 c.loop-attr.text.items c.push_first.new.text.items
          c.in-Some.rest c.if-attr.false so_far (rw c.in-Some.is at (c.in_ok-rest.ensures.pushes so_far.own so_far.spelled so_far.stands));
      reads = reads-then (g.St.Store.state c.args.store.now) s u c.loop-attr.invariant.reads c.push_first.ensures.reads;
      same_meaning = c.push_first.ensures.same_meaning ∙ c.loop-attr.invariant.same_meaning;
    }
