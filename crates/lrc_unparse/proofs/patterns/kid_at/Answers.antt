use Rattle.std.proofs.Common.{◌-◌, sym, ◌∙◌, slice_get}
use Rattle.lrc_store.specs.Standing.{meant}
use Rattle.lrc_store.proofs.Lasting.{reads-then}
use Rattle.lrc_code.specs.Decoding.{items_in}
use Rattle.lrc_unparse.proofs.PatternLemmas.{no-items, plain-no-items, none-left, passed-on}
use Rattle.lrc_unparse.proofs.patterns.kid_at.Goals as goal

pub returns-in_default : goal.returns-in_default
returns-in_default g c =
    let s = g.St.Store.state c.loop-passed.store in
    let t = g.St.Store.state c.look.new.self in
    let left = meant s c.loop-passed.left.0 in
    record {
      kid = none-left (items_in left) (c.args.number - c.loop-passed._passed) (slice_get (items_in (meant (g.St.Store.state c.args.store.now) c.args.kids.0)) c.args.number)
          (no-items t c.look.result left c.in_default.not-Pair c.look.ensures.shows) c.loop-passed.invariant.behind;
      known = tt;
      reads = reads-then (g.St.Store.state c.args.store.now) s t c.loop-passed.invariant.reads c.look.ensures.reads;
      same_meaning = c.look.ensures.same_meaning ∙ c.loop-passed.invariant.same_meaning;
    }

pub loop-passed-preserved : goal.loop-passed-preserved
loop-passed-preserved g c =
    let s = g.St.Store.state c.loop-passed.store in
    let t = g.St.Store.state c.look.new.self in
    let shows = c.in-Pair.ensures.shows in
    record {
      behind =
          sym (passed-on (meant s c.loop-passed.left.0) c.in-Pair.field-0 (meant t c.in-Pair.field-1.0) (meant t c.in-Pair.rest.0) c.args.number c.loop-passed._passed shows.2 c.loop-passed-test.true)
          ∙ c.loop-passed.invariant.behind;
      known = shows.1;
      reads = reads-then (g.St.Store.state c.args.store.now) s t c.loop-passed.invariant.reads c.look.ensures.reads;
      same_meaning = c.look.ensures.same_meaning ∙ c.loop-passed.invariant.same_meaning;
    }

pub returns-in-Nil : goal.returns-in-Nil
returns-in-Nil g c =
    let s = g.St.Store.state c.loop-passed.store in
    let t = g.St.Store.state c.look-2.new.self in
    let left = meant s c.loop-passed.left.0 in
    record {
      kid = none-left (items_in left) (c.args.number - c.loop-passed._passed) (slice_get (items_in (meant (g.St.Store.state c.args.store.now) c.args.kids.0)) c.args.number)
          (plain-no-items t c.look-2.result left c.in-Nil.is c.look-2.ensures.shows) c.loop-passed.invariant.behind;
      known = tt;
      reads = reads-then (g.St.Store.state c.args.store.now) s t c.loop-passed.invariant.reads c.look-2.ensures.reads;
      same_meaning = c.look-2.ensures.same_meaning ∙ c.loop-passed.invariant.same_meaning;
    }

pub returns-in-Pair-look-clause-reads : goal.returns-in-Pair-look-clause-reads
returns-in-Pair-look-clause-reads g c =
    reads-then (g.St.Store.state c.args.store.now) (g.St.Store.state c.loop-passed.store) (g.St.Store.state c.look-2.new.self) c.loop-passed.invariant.reads c.look-2.ensures.reads
