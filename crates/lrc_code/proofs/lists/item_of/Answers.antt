use Rattle.std.proofs.Common.{◌≡◌, ◌∙◌, arith, subst, ℕ}
use Rattle.lrc_store.specs.Standing.{meant}
use Rattle.lrc_store.proofs.Lasting.{reads-then}
use Rattle.lrc_code.proofs.Reading.{IsBehind, behind-pair, behind-more, behind-item}
use Rattle.lrc_code.proofs.lists.item_of.Goals as goal

pub sides_of-requires-clause-pair : goal.sides_of-requires-clause-pair
sides_of-requires-clause-pair g c = behind-pair _ c.loop-passed._passed c.args.i _ (omega (arith, c.loop-passed-test.true)) c.loop-passed.invariant.behind

pub loop-passed-preserved : goal.loop-passed-preserved
loop-passed-preserved g c =
    let o = g.St.Store.state c.args.store.now in
    let s = g.St.Store.state c.loop-passed.store in
    let t = g.St.Store.state c.sides_of.new.store in
    record {
      known = c.sides_of.ensures.sides.right;
      behind = behind-more (meant o c.args.list.0) c.loop-passed._passed c.args.i _ (meant s c.loop-passed.rest.0) _ _ c.loop-passed-test.true c.sides_of.ensures.sides.whole c.loop-passed.invariant.behind;
      reads = reads-then o s t c.loop-passed.invariant.reads c.sides_of.ensures.reads;
      same_meaning = c.sides_of.ensures.same_meaning ∙ c.loop-passed.invariant.same_meaning;
    }

pub sides_of-requires-2-clause-pair : goal.sides_of-requires-2-clause-pair
sides_of-requires-2-clause-pair g c = behind-pair _ c.loop-passed._passed c.args.i _ (omega (arith, c.loop-passed.auto._passed-end)) c.loop-passed.invariant.behind

pub returns-clause-item : goal.returns-clause-item
returns-clause-item g c =
    let o = g.St.Store.state c.args.store.now in
    let s = g.St.Store.state c.loop-passed.store in
    let all : c.loop-passed._passed ≡ c.args.i = omega (arith, c.loop-passed.auto._passed-end, c.loop-passed-test.false) in
    let P : ℕ → Type 0 = λ k. IsBehind (meant o c.args.list.0) k c.args.i (meant s c.loop-passed.rest.0) in
    behind-item (meant o c.args.list.0) c.args.i _ (meant s c.loop-passed.rest.0) _ _ c.sides_of-2.ensures.sides.whole (subst P all c.loop-passed.invariant.behind)

pub returns-clause-reads : goal.returns-clause-reads
returns-clause-reads g c = reads-then _ (g.St.Store.state c.loop-passed.store) _ c.loop-passed.invariant.reads c.sides_of-2.ensures.reads
