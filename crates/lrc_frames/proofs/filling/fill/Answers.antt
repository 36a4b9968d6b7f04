use Rattle.std.proofs.Common.{ℕ, ◌+◌, List, map, drop, get_or, subst, refl, ◌∙◌, arith}
use Rattle.std.proofs.lemmas.List.{drop_all}
use Rattle.lrc_store.proofs.Lasting.{reads-then}
use Rattle.lrc_call_meaning.specs.Forms.{datum_cell}
use Rattle.lrc_frames.specs.Lists.{HasFront}
use Rattle.lrc_frames.proofs.ReadLemmas.{reads_same}
use Rattle.lrc_frames.proofs.FillLemmas.{Left, all_left, left_there, next, left_behind, ends_early, ends}
use Rattle.lrc_frames.proofs.filling.fill.Goals as goal

pub numbers-init : goal.numbers-init
numbers-init g c = record {
  left = λ h parts body r items given fills.
      all_left h parts (g.St.Store.state c.args.store.now) c.args.frame.now body r c.args.numbers.now c.args.list.0 c.args.reading items given fills;
  reads = reads_same (g.St.Store.state c.args.store.now);
  same_meaning = refl;
}

pub front_of-requires : goal.front_of-requires
front_of-requires g c =
    let w = c.requires in
    let left = c.numbers.invariant.left w.0 w.1 w.2 w.3 w.4 w.5 w.6 in
    (map datum_cell left.more, left.fills.list)

pub returns-in_default-clause-filled : goal.returns-in_default-clause-filled
returns-in_default-clause-filled g c h parts body r items given fills =
    let s = g.St.Store.state c.numbers.store in
    let t = g.St.Store.state c.front_of.new.store in
    let numbers = c.args.numbers.now in
    let i = c.numbers.number-index in
    let left = left_there h parts s c.numbers.frame body r numbers i c.numbers.rest.0 c.args.reading items given c.numbers-test.true (c.numbers.invariant.left h parts body r items given fills) in
    let front = subst (HasFront t (map datum_cell left.more)) c.in_default.is (c.front_of.ensures.front (map datum_cell left.more) left.fills.list) in
    ends_early h parts s t c.front_of.ensures.reads.stays.lasts.known c.numbers.frame body c.numbers.rest.0 c.args.reading r items given (get_or numbers i 0) (drop (i + 1) numbers) left front

pub returns-in_default-clause-reads : goal.returns-in_default-clause-reads
returns-in_default-clause-reads g c =
    reads-then (g.St.Store.state c.args.store.now) (g.St.Store.state c.numbers.store) (g.St.Store.state c.front_of.new.store) c.numbers.invariant.reads c.front_of.ensures.reads

pub returns-in_default-clause-same_meaning : goal.returns-in_default-clause-same_meaning
returns-in_default-clause-same_meaning g c = c.front_of.ensures.same_meaning ∙ c.numbers.invariant.same_meaning

pub read-requires : goal.read-requires
read-requires g c =
    let w = c.requires in
    let s = g.St.Store.state c.numbers.store in
    let t = g.St.Store.state c.front_of.new.store in
    let numbers = c.args.numbers.now in
    let i = c.numbers.number-index in
    let left = left_there w.0 w.1 s c.numbers.frame w.2 w.3 numbers i c.numbers.rest.0 c.args.reading w.4 w.5 c.numbers-test.true (c.numbers.invariant.left w.0 w.1 w.2 w.3 w.4 w.5 w.6) in
    let front = c.in-Some.ensures.front (map datum_cell left.more) left.fills.list in
    let now = next w.0 w.1 s t c.front_of.ensures.reads.stays.lasts.known c.numbers.frame w.2 (get_or numbers i 0) (drop (i + 1) numbers) c.numbers.rest.0 c.args.reading c.in-Some.front
    left.run left.later left.more left.fills front in
    (now.item, now.datum, now.read, now.stands, now.spelled)

pub bounds-frame-number : goal.bounds-frame-number
bounds-frame-number g c =
    let w = c.requires in
    let s = g.St.Store.state c.numbers.store in
    let t = g.St.Store.state c.front_of.new.store in
    let numbers = c.args.numbers.now in
    let i = c.numbers.number-index in
    let left = left_there w.0 w.1 s c.numbers.frame w.2 w.3 numbers i c.numbers.rest.0 c.args.reading w.4 w.5 c.numbers-test.true (c.numbers.invariant.left w.0 w.1 w.2 w.3 w.4 w.5 w.6) in
    let front = c.in-Some.ensures.front (map datum_cell left.more) left.fills.list in
    (next w.0 w.1 s t c.front_of.ensures.reads.stays.lasts.known c.numbers.frame w.2 (get_or numbers i 0) (drop (i + 1) numbers) c.numbers.rest.0 c.args.reading c.in-Some.front
    left.run left.later left.more left.fills front).within

pub numbers-preserved : goal.numbers-preserved
numbers-preserved g c =
    let s = g.St.Store.state c.numbers.store in
    let t = g.St.Store.state c.front_of.new.store in
    let u = g.St.Store.state c.read.new.store in
    let numbers = c.args.numbers.now in
    let i = c.numbers.number-index in
    record {
      left = λ h parts body r items given fills.
          let left = left_there h parts s c.numbers.frame body r numbers i c.numbers.rest.0 c.args.reading items given c.numbers-test.true (c.numbers.invariant.left h parts body r items given fills) in
          left_behind h parts s t c.front_of.ensures.reads.stays.lasts.known c.numbers.frame body (get_or numbers i 0) (drop (i + 1) numbers) c.numbers.rest.0 c.args.reading c.in-Some.front
          u c.read.ensures.reads.stays.lasts.known c.read.result c.read.ensures.shows r items given left (c.in-Some.ensures.front (map datum_cell left.more) left.fills.list);
      reads = reads-then (g.St.Store.state c.args.store.now) t u
          (reads-then (g.St.Store.state c.args.store.now) s t c.numbers.invariant.reads c.front_of.ensures.reads) c.read.ensures.reads;
      same_meaning = c.read.ensures.same_meaning ∙ c.front_of.ensures.same_meaning ∙ c.numbers.invariant.same_meaning;
    }

pub front_of-requires-2 : goal.front_of-requires-2
front_of-requires-2 g c =
    let w = c.requires in
    let left = c.numbers.invariant.left w.0 w.1 w.2 w.3 w.4 w.5 w.6 in
    (map datum_cell left.more, left.fills.list)

pub returns-clause-filled : goal.returns-clause-filled
returns-clause-filled g c h parts body r items given fills =
    let s = g.St.Store.state c.numbers.store in
    let t = g.St.Store.state c.front_of-2.new.store in
    let none = drop_all c.numbers.number-index c.args.numbers.now (omega (arith, c.numbers-test.false)) in
    let left = subst (λ (ns : List ℕ). Left h parts s c.numbers.frame body r ns c.numbers.rest.0 c.args.reading items given) none (c.numbers.invariant.left h parts body r items given fills) in
    ends h parts s t c.front_of-2.ensures.reads.stays.lasts.known c.numbers.frame body c.numbers.rest.0 c.args.reading r items given c.front_of-2.result c.is_none.result c.is_none.ensures
    left (c.front_of-2.ensures.front (map datum_cell left.more) left.fills.list)

pub returns-clause-reads : goal.returns-clause-reads
returns-clause-reads g c =
    reads-then (g.St.Store.state c.args.store.now) (g.St.Store.state c.numbers.store) (g.St.Store.state c.front_of-2.new.store) c.numbers.invariant.reads c.front_of-2.ensures.reads

pub returns-clause-same_meaning : goal.returns-clause-same_meaning
returns-clause-same_meaning g c = c.front_of-2.ensures.same_meaning ∙ c.numbers.invariant.same_meaning
