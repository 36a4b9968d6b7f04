use Rattle.std.proofs.Common.{◌≡◌, drop}
use Rattle.lrc_meaning.specs.Tree.{Trees}
use Rattle.lrc_store.specs.Standing.{Stands}
use Rattle.lrc_store.specs.Words.{Reads}
use Rattle.lrc_code.specs.Forms.{list_cell, kid_cells}
use Rattle.lrc_frames.proofs.NodeLemmas.{KidsLeft}
use Rattle.lrc_frames.proofs.nodes.are_of_kinds.Given as goal

-- the children that were not passed decide
abbrev pub invariant-kids : goal.invariant-kids
invariant-kids g l = record {
  left : (ts : Trees) → Stands (g.St.Store.state l.fn.store) l.fn.list.0 (list_cell (kid_cells ts)) → KidsLeft (g.St.Store.state l.store) l.prods ts l.kids l.rest.0 (drop l.kid-index l.kids);
  reads : Reads (g.St.Store.state l.fn.store) (g.St.Store.state l.store);
  same_meaning : g.St.Store.meaning l.store ≡ g.St.Store.meaning l.fn.store;
}
