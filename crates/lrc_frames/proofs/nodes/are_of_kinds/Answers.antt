use Rattle.std.proofs.Common.{◌+◌, List, drop, subst, ◌∙◌, arith}
use Rattle.std.proofs.lemmas.List.{drop_all}
use Rattle.lrc_base.specs.declared.grammar.Kid.{Kid}
use Rattle.lrc_store.proofs.Lasting.{reads-then}
use Rattle.lrc_code.specs.Forms.{kid_cells}
use Rattle.lrc_frames.specs.Lists.{HasFront}
use Rattle.lrc_frames.proofs.NodeLemmas.{KidsLeft, kids_there, no_kid_left, now, wrong_kid, kids_left, kids_end}
use Rattle.lrc_frames.proofs.nodes.are_of_kinds.Goals as goal

pub returns-in_default-clause-are : goal.returns-in_default-clause-are
returns-in_default-clause-are g c ts stands =
    let s = g.St.Store.state c.kids.store in
    let t = g.St.Store.state c.front_of.new.store in
    let kids = c.args.kids.now in
    let i = c.kids.kid-index in
    let kid = c.kid-item.result in
    let left = kids_there s c.args.prods.now ts kids c.kids.rest.0 i kid c.kids-test.true c.kid-item.is (c.kids.invariant.left ts stands) in
    no_kid_left s t t c.args.prods.now ts kids c.kids.rest.0 kid (drop (i + 1) kids) left
    (subst (HasFront t (kid_cells left.left)) c.in_default.is (c.front_of.ensures.front (kid_cells left.left) left.stands))

pub returns-in_default-clause-reads : goal.returns-in_default-clause-reads
returns-in_default-clause-reads g c =
    reads-then (g.St.Store.state c.args.store.now) (g.St.Store.state c.kids.store) (g.St.Store.state c.front_of.new.store) c.kids.invariant.reads c.front_of.ensures.reads

pub is_of_kind-requires : goal.is_of_kind-requires
is_of_kind-requires g c =
    let s = g.St.Store.state c.kids.store in
    let t = g.St.Store.state c.front_of.new.store in
    let kids = c.args.kids.now in
    let i = c.kids.kid-index in
    let kid = c.kid-item.result in
    let left = kids_there s c.args.prods.now c.requires.0 kids c.kids.rest.0 i kid c.kids-test.true c.kid-item.is (c.kids.invariant.left c.requires.0 c.requires.1) in
    let next = now s t t c.args.prods.now c.requires.0 kids c.kids.rest.0 kid (drop (i + 1) kids) left c.in-Some.front (c.in-Some.ensures.front (kid_cells left.left) left.stands) in
    (next.kid, next.item)

pub returns-then-not-is_of_kind-clause-are : goal.returns-then-not-is_of_kind-clause-are
returns-then-not-is_of_kind-clause-are g c ts stands =
    let s = g.St.Store.state c.kids.store in
    let t = g.St.Store.state c.front_of.new.store in
    let kids = c.args.kids.now in
    let i = c.kids.kid-index in
    let kid = c.kid-item.result in
    let left = kids_there s c.args.prods.now ts kids c.kids.rest.0 i kid c.kids-test.true c.kid-item.is (c.kids.invariant.left ts stands) in
    let front = c.in-Some.ensures.front (kid_cells left.left) left.stands in
    let next = now s t t c.args.prods.now ts kids c.kids.rest.0 kid (drop (i + 1) kids) left c.in-Some.front front in
    wrong_kid s t t c.args.prods.now ts kids c.kids.rest.0 kid (drop (i + 1) kids) left c.in-Some.front front
    c.is_of_kind.result (c.is_of_kind.ensures.is next.kid next.item) c.if-not-is_of_kind.true

pub returns-then-not-is_of_kind-clause-reads : goal.returns-then-not-is_of_kind-clause-reads
returns-then-not-is_of_kind-clause-reads g c =
    let o = g.St.Store.state c.args.store.now in
    let s = g.St.Store.state c.kids.store in
    let t = g.St.Store.state c.front_of.new.store in
    reads-then o t (g.St.Store.state c.is_of_kind.new.store) (reads-then o s t c.kids.invariant.reads c.front_of.ensures.reads) c.is_of_kind.ensures.reads

pub kids-preserved : goal.kids-preserved
kids-preserved g c =
    let o = g.St.Store.state c.args.store.now in
    let s = g.St.Store.state c.kids.store in
    let t = g.St.Store.state c.front_of.new.store in
    let u = g.St.Store.state c.is_of_kind.new.store in
    let kids = c.args.kids.now in
    let i = c.kids.kid-index in
    let kid = c.kid-item.result in
    record {
      left = λ ts stands.
          let left = kids_there s c.args.prods.now ts kids c.kids.rest.0 i kid c.kids-test.true c.kid-item.is (c.kids.invariant.left ts stands) in
          let front = c.in-Some.ensures.front (kid_cells left.left) left.stands in
          let next = now s t u c.args.prods.now ts kids c.kids.rest.0 kid (drop (i + 1) kids) left c.in-Some.front front in
          kids_left s t u c.args.prods.now ts kids c.kids.rest.0 kid (drop (i + 1) kids) left c.in-Some.front front c.is_of_kind.ensures.reads.stays.lasts.known
          c.is_of_kind.result (c.is_of_kind.ensures.is next.kid next.item) c.if-not-is_of_kind.false;
      reads = reads-then o t u (reads-then o s t c.kids.invariant.reads c.front_of.ensures.reads) c.is_of_kind.ensures.reads;
      same_meaning = c.is_of_kind.ensures.same_meaning ∙ c.front_of.ensures.same_meaning ∙ c.kids.invariant.same_meaning;
    }

pub returns-clause-are : goal.returns-clause-are
returns-clause-are g c ts stands =
    let s = g.St.Store.state c.kids.store in
    let t = g.St.Store.state c.front_of-2.new.store in
    let kids = c.args.kids.now in
    let none = drop_all c.kids.kid-index kids (omega (arith, c.kids-test.false)) in
    let left = subst (λ (later : List Kid). KidsLeft s c.args.prods.now ts kids c.kids.rest.0 later) none (c.kids.invariant.left ts stands) in
    kids_end s t c.args.prods.now ts kids c.kids.rest.0 left c.front_of-2.result c.is_none.result c.is_none.ensures
    (c.front_of-2.ensures.front (kid_cells left.left) left.stands)

pub returns-clause-reads : goal.returns-clause-reads
returns-clause-reads g c =
    reads-then (g.St.Store.state c.args.store.now) (g.St.Store.state c.kids.store) (g.St.Store.state c.front_of-2.new.store) c.kids.invariant.reads c.front_of-2.ensures.reads
