use Rattle.std.proofs.Common.{◌≡◌, ◌-◌}
use Rattle.std.specs.Prelude.{slice_get}
use Rattle.lrc_meaning.specs.Tree.{Trees, in_order}
use Rattle.lrc_store.specs.Standing.{Stands}
use Rattle.lrc_store.specs.Words.{Reads}
use Rattle.lrc_places.specs.Places.{kids_cell}
use Rattle.lrc_places.proofs.KidLemmas.{IsBehind}
use Rattle.lrc_places.proofs.places.kid_at.Given as goal

-- the child is behind those that are still to be passed
abbrev pub invariant-loop-passed : goal.invariant-loop-passed
invariant-loop-passed g l = record {
  behind : (ts : Trees) → Stands (g.St.Store.state l.fn.store) l.fn.kids.0 (kids_cell ts) → IsBehind (g.St.Store.state l.store) (slice_get (in_order ts) l.number) (l.number - l._passed) l.items;
  reads : Reads (g.St.Store.state l.fn.store) (g.St.Store.state l.store);
  same_meaning : g.St.Store.meaning l.store ≡ g.St.Store.meaning l.fn.store;
}
