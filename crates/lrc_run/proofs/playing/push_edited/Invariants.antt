use Rattle.std.proofs.Common.{◌≡◌, List, map, take}
use Rattle.lrc_meaning.specs.Tree.{Tree}
use Rattle.lrc_meaning.specs.Editing.{change}
use Rattle.lrc_session.specs.Sessions.{IsOpen}
use Rattle.lrc_run.specs.Editing.{GainsSome, AreEdited}
use Rattle.lrc_run.proofs.playing.push_edited.Given as goal

-- the edits so far were made, and answered with the lines so far
abbrev pub invariant-edits : goal.invariant-edits
invariant-edits g l = record {
  edited : (t : Tree) (vs : List Tree) → IsOpen l.functions (g.St.Store.state l.fn.store) l.fn.session t vs →
      AreEdited l.functions (g.St.Store.state l.fn.store) (g.St.Store.state l.store) l.fn.session.depth t (map change (take l.before l.edits)) l.session l.fn.lines l.lines;
  depth : l.session.depth ≡ l.fn.session.depth;
  gains : GainsSome (g.St.Store.state l.fn.store) (g.St.Store.state l.store);
  same_meaning : g.St.Store.meaning l.store ≡ g.St.Store.meaning l.fn.store;
}
