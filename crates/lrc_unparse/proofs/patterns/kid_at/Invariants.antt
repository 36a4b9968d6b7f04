use Rattle.std.proofs.Common.{◌≡◌, ◌-◌, slice_get}
use Rattle.lrc_store.specs.Standing.{IsKnown, meant}
use Rattle.lrc_store.specs.Words.{Reads}
use Rattle.lrc_code.specs.Decoding.{items_in}
use Rattle.lrc_unparse.proofs.patterns.kid_at.Given as goal

-- the child is behind those that are still to be passed
abbrev pub invariant-loop-passed : goal.invariant-loop-passed
invariant-loop-passed g l = record {
  behind : slice_get (items_in (meant (g.St.Store.state l.store) l.left.0)) (l.number - l._passed) ≡ slice_get (items_in (meant (g.St.Store.state l.fn.store) l.fn.kids.0)) l.number;
  known : IsKnown (g.St.Store.state l.store) l.left.0;
  reads : Reads (g.St.Store.state l.fn.store) (g.St.Store.state l.store);
  same_meaning : g.St.Store.meaning l.store ≡ g.St.Store.meaning l.fn.store;
}
