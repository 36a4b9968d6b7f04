use Rattle.std.proofs.Common.{◌≡◌, ℕ, List, drop}
use Rattle.lrc_meaning.specs.Grammar.{Grammar}
use Rattle.lrc_order_meaning.specs.declared.Partition.{Partition}
use Rattle.lrc_plan_meaning.specs.declared.Bound.{Bound}
use Rattle.lrc_visit_meaning.specs.Values.{Data}
use Rattle.lrc_store.specs.Words.{Reads}
use Rattle.lrc_frames.specs.declared.body.Body.{Body}
use Rattle.lrc_frames.specs.Frames.{Run}
use Rattle.lrc_frames.specs.Lists.{FillsEach}
use Rattle.lrc_frames.proofs.EachLemmas.{LeftEach}
use Rattle.lrc_frames.proofs.bindings.fill_each.Given as goal

-- the lists of numbers that were not passed, and the rest of the bindings, are left
abbrev pub invariant-lists : goal.invariant-lists
invariant-lists g l = record {
  left : (h : Grammar) (parts : List Partition) (body : Body) (r : Run) (items : ℕ → List Bound) (visits : List ℕ) (rows : List Data)
      → FillsEach h parts (g.St.Store.state l.fn.store) l.fn.frame body r l.fn.lists l.fn.bindings.0 l.fn.reading items visits rows
      → LeftEach h parts (g.St.Store.state l.store) l.frame body r (drop l.numbers-index l.lists) l.rest.0 l.reading items visits rows;
  reads : Reads (g.St.Store.state l.fn.store) (g.St.Store.state l.store);
  same_meaning : g.St.Store.meaning l.store ≡ g.St.Store.meaning l.fn.store;
}
