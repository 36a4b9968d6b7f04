use Rattle.std.proofs.Common.{◌≡◌, List, drop}
use Rattle.lrc_meaning.specs.Grammar.{Grammar}
use Rattle.lrc_order_meaning.specs.declared.Partition.{Partition}
use Rattle.lrc_plan_meaning.specs.declared.Bound.{Bound}
use Rattle.lrc_visit_meaning.specs.Values.{Datum}
use Rattle.lrc_store.specs.Words.{Reads}
use Rattle.lrc_frames.specs.declared.body.Body.{Body}
use Rattle.lrc_frames.specs.Frames.{Run}
use Rattle.lrc_frames.specs.Lists.{Fills}
use Rattle.lrc_frames.proofs.FillLemmas.{Left}
use Rattle.lrc_frames.proofs.filling.fill.Given as goal

-- the numbers that were not passed, and the rest of the list, are left
abbrev pub invariant-numbers : goal.invariant-numbers
invariant-numbers g l = record {
  left : (h : Grammar) (parts : List Partition) (body : Body) (r : Run) (items : List Bound) (given : List Datum)
      → Fills h parts (g.St.Store.state l.fn.store) l.fn.frame body r l.fn.numbers l.fn.list.0 l.fn.reading items given
      → Left h parts (g.St.Store.state l.store) l.frame body r (drop l.number-index l.numbers) l.rest.0 l.reading items given;
  reads : Reads (g.St.Store.state l.fn.store) (g.St.Store.state l.store);
  same_meaning : g.St.Store.meaning l.store ≡ g.St.Store.meaning l.fn.store;
}
