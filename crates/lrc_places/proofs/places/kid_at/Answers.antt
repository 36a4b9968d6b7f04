use Rattle.std.proofs.Common.{◌∙◌}
use Rattle.std.specs.Prelude.{slice_get}
use Rattle.lrc_meaning.specs.Tree.{in_order}
use Rattle.lrc_store.proofs.Lasting.{reads-then}
use Rattle.lrc_places.proofs.KidLemmas.{first-behind, passed-on}
use Rattle.lrc_places.proofs.places.kid_at.Goals as goal

pub returns-in_err-items-2-clause-reads : goal.returns-in_err-items-2-clause-reads
returns-in_err-items-2-clause-reads g c =
    reads-then (g.St.Store.state c.args.store.now) (g.St.Store.state c.loop-passed.store) (g.St.Store.state c.items_of-in-loop-passed.new.store)
    c.loop-passed.invariant.reads c.items_of-in-loop-passed.ensures.reads

pub loop-passed-preserved : goal.loop-passed-preserved
loop-passed-preserved g c =
    let s = g.St.Store.state c.loop-passed.store in
    let t = g.St.Store.state c.items_of-in-loop-passed.new.store in
    record {
      behind = λ ts stands.
          let (first, rest, wanted, _, others) = c.loop-passed.invariant.behind ts stands in
          first-behind t rest (slice_get (in_order ts) c.args.number) _ c.in_ok-items-2.items
          (passed-on (slice_get (in_order ts) c.args.number) first rest c.args.number c.loop-passed._passed c.loop-passed-test.true wanted)
          (c.in_ok-items-2.ensures.first rest others);
      reads = reads-then (g.St.Store.state c.args.store.now) s t c.loop-passed.invariant.reads c.items_of-in-loop-passed.ensures.reads;
      same_meaning = c.items_of-in-loop-passed.ensures.same_meaning ∙ c.loop-passed.invariant.same_meaning;
    }
