use Rattle.std.proofs.Common.{◌≡◌, ◌*◌, ◌-◌, drop}
use Rattle.lrc_store.specs.Cells.{parts}
use Rattle.lrc_store.specs.Words.{Adds, Tells}
use Rattle.lrc_code.specs.Forms.{name_cell, words_cell}
use Rattle.lrc_code.proofs.names.put_name.Given as goal

-- the last words are in the store
abbrev pub invariant-loop-done : goal.invariant-loop-done
invariant-loop-done g l = record {
  adds : Adds (g.St.Store.state l.fn.store) (g.St.Store.state l.store) (parts (name_cell l.fn.name));
  tells : Tells (g.St.Store.state l.store) l.rest.0 (words_cell l.done (drop (8 * (l.words - l.done)) l.bytes));
  same_meaning : g.St.Store.meaning l.store ≡ g.St.Store.meaning l.fn.store;
}
