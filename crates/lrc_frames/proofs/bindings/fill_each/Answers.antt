use Rattle.std.proofs.Common.{ℕ, ◌+◌, List, ◌∷◌, map, drop, subst, sym, ◌∙◌, arith}
use Rattle.std.proofs.lemmas.List.{drop_all}
use Rattle.lrc_visit_meaning.specs.Values.{data_list}
use Rattle.lrc_store.proofs.Lasting.{reads-then}
use Rattle.lrc_call_meaning.specs.Forms.{binding_cell}
use Rattle.lrc_frames.specs.Lists.{HasFront, FilledIf}
use Rattle.lrc_frames.proofs.EachLemmas.{LeftEach, list_there, now_left, row_short, behind, no_row, each_ends}
use Rattle.lrc_frames.proofs.bindings.fill_each.Goals as goal

pub front_of-requires : goal.front_of-requires
front_of-requires g c =
    let w = c.requires in
    let left = c.lists.invariant.left w.0 w.1 w.2 w.3 w.4 w.5 w.6 w.7 in
    (map binding_cell left.more, left.fills.list)

pub returns-in_default-clause-filled : goal.returns-in_default-clause-filled
returns-in_default-clause-filled g c h parts body r items visits rows fills =
    let s = g.St.Store.state c.lists.store in
    let t = g.St.Store.state c.front_of.new.store in
    let lists = c.args.lists.now in
    let i = c.lists.numbers-index in
    let numbers = c.numbers-item.result in
    let left = list_there h parts s c.lists.frame body r lists i numbers c.lists.rest.0 c.args.reading items visits rows c.lists-test.true c.numbers-item.is
    (c.lists.invariant.left h parts body r items visits rows fills) in
    no_row h parts s t c.front_of.ensures.reads.stays.lasts.known c.lists.frame body c.lists.rest.0 c.args.reading r items visits rows numbers (drop (i + 1) lists) left
    (subst (HasFront t (map binding_cell left.more)) c.in_default.is (c.front_of.ensures.front (map binding_cell left.more) left.fills.list))

pub returns-in_default-clause-reads : goal.returns-in_default-clause-reads
returns-in_default-clause-reads g c =
    reads-then (g.St.Store.state c.args.store.now) (g.St.Store.state c.lists.store) (g.St.Store.state c.front_of.new.store) c.lists.invariant.reads c.front_of.ensures.reads

pub fill-requires : goal.fill-requires
fill-requires g c =
    let w = c.requires in
    let s = g.St.Store.state c.lists.store in
    let t = g.St.Store.state c.front_of.new.store in
    let lists = c.args.lists.now in
    let i = c.lists.numbers-index in
    let numbers = c.as_slice.result.now in
    let left = subst (λ (ns : List ℕ). LeftEach w.0 w.1 s c.lists.frame w.2 w.3 (ns ∷ drop (i + 1) lists) c.lists.rest.0 c.args.reading w.4 w.5 w.6) (sym c.as_slice.ensures)
    (list_there w.0 w.1 s c.lists.frame w.2 w.3 lists i c.numbers-item.result c.lists.rest.0 c.args.reading w.4 w.5 w.6 c.lists-test.true c.numbers-item.is
    (c.lists.invariant.left w.0 w.1 w.2 w.3 w.4 w.5 w.6 w.7)) in
    let now = now_left w.0 w.1 s t c.front_of.ensures.reads.stays.lasts.known c.lists.frame w.2 numbers (drop (i + 1) lists) c.lists.rest.0 c.args.reading w.4 c.in-Some.front
    left.run left.later left.more left.fills (c.in-Some.ensures.front (map binding_cell left.more) left.fills.list) in
    (w.0, w.1, w.2, left.run, w.4 now.visit, data_list now.row, now.fills)

pub returns-then-not-fill-clause-filled : goal.returns-then-not-fill-clause-filled
returns-then-not-fill-clause-filled g c h parts body r items visits rows fills =
    let s = g.St.Store.state c.lists.store in
    let t = g.St.Store.state c.front_of.new.store in
    let u = g.St.Store.state c.fill.new.store in
    let keeps = c.front_of.ensures.reads.stays.lasts.known in
    let lists = c.args.lists.now in
    let i = c.lists.numbers-index in
    let numbers = c.as_slice.result.now in
    let left = subst (λ (ns : List ℕ). LeftEach h parts s c.lists.frame body r (ns ∷ drop (i + 1) lists) c.lists.rest.0 c.args.reading items visits rows) (sym c.as_slice.ensures)
    (list_there h parts s c.lists.frame body r lists i c.numbers-item.result c.lists.rest.0 c.args.reading items visits rows c.lists-test.true c.numbers-item.is
    (c.lists.invariant.left h parts body r items visits rows fills)) in
    let now = now_left h parts s t keeps c.lists.frame body numbers (drop (i + 1) lists) c.lists.rest.0 c.args.reading items c.in-Some.front
    left.run left.later left.more left.fills (c.in-Some.ensures.front (map binding_cell left.more) left.fills.list) in
    row_short h parts s t keeps c.lists.frame body numbers (drop (i + 1) lists) c.lists.rest.0 c.args.reading items c.in-Some.front r left.run visits left.later rows left.more now left.decide
    (subst (FilledIf h parts u c.fill.new.frame body left.run (items now.visit) (data_list now.row)) c.if-not-fill.true
    (c.fill.ensures.filled h parts body left.run (items now.visit) (data_list now.row) now.fills))

pub returns-then-not-fill-clause-reads : goal.returns-then-not-fill-clause-reads
returns-then-not-fill-clause-reads g c =
    let o = g.St.Store.state c.args.store.now in
    let s = g.St.Store.state c.lists.store in
    let t = g.St.Store.state c.front_of.new.store in
    reads-then o t (g.St.Store.state c.fill.new.store) (reads-then o s t c.lists.invariant.reads c.front_of.ensures.reads) c.fill.ensures.reads

pub lists-preserved : goal.lists-preserved
lists-preserved g c =
    let o = g.St.Store.state c.args.store.now in
    let s = g.St.Store.state c.lists.store in
    let t = g.St.Store.state c.front_of.new.store in
    let u = g.St.Store.state c.fill.new.store in
    let keeps = c.front_of.ensures.reads.stays.lasts.known in
    let lists = c.args.lists.now in
    let i = c.lists.numbers-index in
    let numbers = c.as_slice.result.now in
    record {
      left = λ h parts body r items visits rows fills.
          let left = subst (λ (ns : List ℕ). LeftEach h parts s c.lists.frame body r (ns ∷ drop (i + 1) lists) c.lists.rest.0 c.args.reading items visits rows) (sym c.as_slice.ensures)
          (list_there h parts s c.lists.frame body r lists i c.numbers-item.result c.lists.rest.0 c.args.reading items visits rows c.lists-test.true c.numbers-item.is
          (c.lists.invariant.left h parts body r items visits rows fills)) in
          let front = c.in-Some.ensures.front (map binding_cell left.more) left.fills.list in
          let now = now_left h parts s t keeps c.lists.frame body numbers (drop (i + 1) lists) c.lists.rest.0 c.args.reading items c.in-Some.front left.run left.later left.more left.fills front in
          let filled = subst (FilledIf h parts u c.fill.new.frame body left.run (items now.visit) (data_list now.row)) c.if-not-fill.false
          (c.fill.ensures.filled h parts body left.run (items now.visit) (data_list now.row) now.fills) in
          behind h parts s t keeps c.lists.frame body numbers (drop (i + 1) lists) c.lists.rest.0 c.args.reading items c.in-Some.front u c.fill.new.frame c.fill.ensures.reads.stays.lasts.known
          r left.run visits left.later rows left.more left.fills front left.whole left.decide filled.0 filled.1;
      reads = reads-then o t u (reads-then o s t c.lists.invariant.reads c.front_of.ensures.reads) c.fill.ensures.reads;
      same_meaning = c.fill.ensures.same_meaning ∙ c.front_of.ensures.same_meaning ∙ c.lists.invariant.same_meaning;
    }

pub front_of-requires-2 : goal.front_of-requires-2
front_of-requires-2 g c =
    let w = c.requires in
    let left = c.lists.invariant.left w.0 w.1 w.2 w.3 w.4 w.5 w.6 w.7 in
    (map binding_cell left.more, left.fills.list)

pub returns-clause-filled : goal.returns-clause-filled
returns-clause-filled g c h parts body r items visits rows fills =
    let s = g.St.Store.state c.lists.store in
    let t = g.St.Store.state c.front_of-2.new.store in
    let lists = c.args.lists.now in
    let none = drop_all c.lists.numbers-index lists (omega (arith, c.lists-test.false)) in
    let left = subst (λ (later : List (List ℕ)). LeftEach h parts s c.lists.frame body r later c.lists.rest.0 c.args.reading items visits rows) none
    (c.lists.invariant.left h parts body r items visits rows fills) in
    each_ends h parts s t c.front_of-2.ensures.reads.stays.lasts.known c.lists.frame body c.lists.rest.0 c.args.reading r items visits rows left c.front_of-2.result c.is_none.result c.is_none.ensures
    (c.front_of-2.ensures.front (map binding_cell left.more) left.fills.list)

pub returns-clause-reads : goal.returns-clause-reads
returns-clause-reads g c =
    reads-then (g.St.Store.state c.args.store.now) (g.St.Store.state c.lists.store) (g.St.Store.state c.front_of-2.new.store) c.lists.invariant.reads c.front_of-2.ensures.reads
