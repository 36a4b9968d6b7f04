use Rattle.std.proofs.Common.{◌≡◌, List, length}
use Rattle.lrc_store.specs.Cells.{CellTree}
use Rattle.lrc_frames.specs.Writing.{AreHeld}
use Rattle.lrc_frames.proofs.MadeLemmas.{IsMade}
use Rattle.lrc_frames.proofs.items.put_items.Given as goal

-- the last items were put
abbrev pub invariant-loop-done : goal.invariant-loop-done
invariant-loop-done g l = record {
  made : (cells : List CellTree) → AreHeld (g.St.Store.state l.fn.store) l.frame l.numbers cells → IsMade (g.St.Store.state l.fn.store) (g.St.Store.state l.store) l.list.0 cells (length l.numbers) l.done;
  same_meaning : g.St.Store.meaning l.store ≡ g.St.Store.meaning l.fn.store;
}
