use Rattle.std.proofs.Common.{◌≡◌}
use Rattle.lrc_meaning.specs.Tree.{tree}
use Rattle.lrc_store.specs.Cells.{parts}
use Rattle.lrc_store.specs.Words.{Adds}
use Rattle.lrc_code.specs.Forms.{tree_cell}
use Rattle.lrc_code.proofs.StackLemmas.{AreTold}
use Rattle.lrc_code.proofs.FlatLemmas.{cells_at}
use Rattle.lrc_code.proofs.terms.put_term.Given as goal

-- the stack tells the trees that no node has taken yet
abbrev pub invariant-loop-item : goal.invariant-loop-item
invariant-loop-item g l = record {
  told : AreTold (g.St.Store.state l.store) l.stack.held (cells_at l.item-items l.item-index);
  room : l.stack.room ≡ l.fn.stack.room;
  adds : Adds (g.St.Store.state l.fn.store) (g.St.Store.state l.store) (parts (tree_cell (tree l.fn.term)));
  same_meaning : g.St.Store.meaning l.store ≡ g.St.Store.meaning l.fn.store;
}
