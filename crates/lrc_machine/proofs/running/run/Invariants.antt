use Rattle.std.proofs.Common.{◌≡◌}
use Rattle.lrc_visit_meaning.specs.Values.{Call}
use Rattle.lrc_store.specs.Words.{Gains}
use Rattle.lrc_machine.specs.Machine.{AtTurn}
use Rattle.lrc_machine.specs.Levels.{slots_of}
use Rattle.lrc_machine.specs.Measure.{measure}
use Rattle.lrc_machine.specs.Counts.{IsCellOf}
use Rattle.lrc_machine.proofs.CountLemmas.{Counts}
use Rattle.lrc_machine.proofs.running.run.Given as goal

abbrev pub invariant-turns : goal.invariant-turns
invariant-turns g l = record {
  gains : (root : Call) → g.B.Bodies.asks l.bodies (g.St.Store.state l.initial.store) root l.fn.call.0 → Gains (g.St.Store.state l.initial.store) (g.St.Store.state l.store) (g.B.Bodies.meets l.bodies l.fuel root);
  at : (root : Call) → g.B.Bodies.asks l.bodies (g.St.Store.state l.initial.store) root l.fn.call.0 → AtTurn (g.B.Bodies.form l.bodies) (g.B.Bodies.asks l.bodies) (g.B.Bodies.gives l.bodies) (g.B.Bodies.runs l.bodies) (g.B.Bodies.waits l.bodies) (g.B.Bodies.fits l.bodies)
      (g.St.Store.state l.store) (slots_of l.levels) l.fuel root l.turn.level l.turn.step;
  wholes : g.B.Bodies.whole l.bodies (g.St.Store.state l.initial.store).memo → g.B.Bodies.whole l.bodies (g.St.Store.state l.store).memo;
  counts : (root : Call) → g.B.Bodies.asks l.bodies (g.St.Store.state l.initial.store) root l.fn.call.0 → Counts (IsCellOf (g.B.Bodies.form l.bodies) (g.B.Bodies.calls l.bodies l.fuel root)) l.fuel
      (g.St.Store.state l.initial.store) (g.St.Store.state l.store) l.turn.level;
  same_meaning : g.St.Store.meaning l.store ≡ g.St.Store.meaning l.initial.store;
}

abbrev pub decreases-turns : goal.decreases-turns
decreases-turns g l = measure (g.B.Bodies.left l.bodies) (g.B.Bodies.most l.bodies) l.levels.marks.items l.turn.level l.turn.step
