use Rattle.std.proofs.Common.{◌≡◌, List, length, map}
use Rattle.lrc_store.specs.Cells.{CellTree}
use Rattle.lrc_code.specs.Forms.{list_cell}
use Rattle.lrc_frames.specs.Writing.{AreHeldEach}
use Rattle.lrc_frames.proofs.MadeLemmas.{IsMade}
use Rattle.lrc_frames.proofs.items.put_bindings.Given as goal

-- the last bindings were put
abbrev pub invariant-loop-done : goal.invariant-loop-done
invariant-loop-done g l = record {
  made : (rows : List (List CellTree)) → AreHeldEach (g.St.Store.state l.fn.store) l.frame l.lists rows → IsMade (g.St.Store.state l.fn.store) (g.St.Store.state l.store) l.list.0 (map list_cell rows) (length l.lists) l.done;
  same_meaning : g.St.Store.meaning l.store ≡ g.St.Store.meaning l.fn.store;
}
