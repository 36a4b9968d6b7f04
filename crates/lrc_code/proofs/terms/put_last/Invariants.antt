use Rattle.std.proofs.Common.{◌≡◌}
use Rattle.lrc_store.specs.Cells.{parts}
use Rattle.lrc_store.specs.Words.{Adds, Tells}
use Rattle.lrc_code.specs.Forms.{list_cell}
use Rattle.lrc_code.specs.Stack.{last_of, all_but, meant_each}
use Rattle.lrc_code.proofs.terms.put_last.Given as goal

-- the list of those that were taken off is in the store
abbrev pub invariant-loop-taken : goal.invariant-loop-taken
invariant-loop-taken g l = record {
  held : l.stack.held ≡ all_but l._taken l.fn.stack.held;
  room : l.stack.room ≡ l.fn.stack.room;
  adds : Adds (g.St.Store.state l.fn.store) (g.St.Store.state l.store) (parts (list_cell (last_of l.count (meant_each (g.St.Store.state l.fn.store) l.fn.stack.held))));
  tells : Tells (g.St.Store.state l.store) l.list.0 (list_cell (last_of l._taken (meant_each (g.St.Store.state l.fn.store) l.fn.stack.held)));
  same_meaning : g.St.Store.meaning l.store ≡ g.St.Store.meaning l.fn.store;
}
