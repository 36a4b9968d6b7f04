use Rattle.std.proofs.Common.{◌≡◌, drop}
use Rattle.lrc_meaning.specs.Tree.{Tree, at_place}
use Rattle.lrc_store.specs.Standing.{Stands}
use Rattle.lrc_store.specs.Words.{Reads}
use Rattle.lrc_code.specs.Forms.{tree_cell}
use Rattle.lrc_places.proofs.KidLemmas.{IsOnPath}
use Rattle.lrc_places.proofs.places.part_at.Given as goal

-- the steps that are left lead from here to the place
abbrev pub invariant-loop-step : goal.invariant-loop-step
invariant-loop-step g l = record {
  here : (t : Tree) → Stands (g.St.Store.state l.fn.store) l.fn.tree.0 (tree_cell t) → IsOnPath (g.St.Store.state l.store) (at_place t l.steps) (drop l.step-index l.steps) l.here;
  reads : Reads (g.St.Store.state l.fn.store) (g.St.Store.state l.store);
  same_meaning : g.St.Store.meaning l.store ≡ g.St.Store.meaning l.fn.store;
}
