use Rattle.std.proofs.Common.{◌≡◌}
use Rattle.lrc_store.specs.Standing.{IsKnown, meant}
use Rattle.lrc_store.specs.Words.{Reads}
use Rattle.lrc_code.proofs.Reading.{IsBehind}
use Rattle.lrc_code.proofs.lists.item_of.Given as goal

-- the rest is the list behind the items that were passed
abbrev pub invariant-loop-passed : goal.invariant-loop-passed
invariant-loop-passed g l = record {
  known : IsKnown (g.St.Store.state l.store) l.rest.0;
  behind : IsBehind (meant (g.St.Store.state l.fn.store) l.fn.list.0) l._passed l.i (meant (g.St.Store.state l.store) l.rest.0);
  reads : Reads (g.St.Store.state l.fn.store) (g.St.Store.state l.store);
  same_meaning : g.St.Store.meaning l.store ≡ g.St.Store.meaning l.fn.store;
}
