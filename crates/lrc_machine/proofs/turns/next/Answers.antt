use Rattle.std.proofs.Common.{subst}
use Rattle.lrc_machine.specs.Machine.{IsInner, AtTurn}
use Rattle.lrc_machine.specs.Levels.{slots_of}
use Rattle.lrc_machine.proofs.turns.next.Goals as goal

pub returns-in-Open-clause-turns : goal.returns-in-Open-clause-turns
returns-in-Open-clause-turns g c fuel root inner turn =
    let b = c.args.bodies.now in
    c.opened.ensures.turns fuel root (subst (λ step. AtTurn (g.B.Bodies.form b) (g.B.Bodies.asks b) (g.B.Bodies.gives b) (g.B.Bodies.runs b) (g.B.Bodies.waits b) (g.B.Bodies.fits b) (g.St.Store.state c.args.store.now) (slots_of c.args.levels.now) fuel root c.args.turn.level step) c.in-Open.is turn)

pub returns-in-Go-clause-turns : goal.returns-in-Go-clause-turns
returns-in-Go-clause-turns g c fuel root inner turn =
    let b = c.args.bodies.now in
    c.advanced.ensures.turns fuel root (subst (λ step. AtTurn (g.B.Bodies.form b) (g.B.Bodies.asks b) (g.B.Bodies.gives b) (g.B.Bodies.runs b) (g.B.Bodies.waits b) (g.B.Bodies.fits b) (g.St.Store.state c.args.store.now) (slots_of c.args.levels.now) fuel root c.args.turn.level step) c.in-Go.is turn)

pub returns-in-Answer-clause-turns : goal.returns-in-Answer-clause-turns
returns-in-Answer-clause-turns g c fuel root inner turn =
    let b = c.args.bodies.now in
    c.resumed.ensures.turns fuel root (subst (λ step. IsInner fuel c.args.turn.level step) c.in-Answer.is inner) (subst (λ step. AtTurn (g.B.Bodies.form b) (g.B.Bodies.asks b) (g.B.Bodies.gives b) (g.B.Bodies.runs b) (g.B.Bodies.waits b) (g.B.Bodies.fits b) (g.St.Store.state c.args.store.now) (slots_of c.args.levels.now) fuel root c.args.turn.level step) c.in-Answer.is turn)
