use Rattle.std.proofs.Common.{◌≡◌, suc, ◌+◌, ◌-◌, ◌*◌, ◌<◌, drop, subst, arith}
use Rattle.lrc_machine.specs.Measure.{times, weigh, base, digits}
use Rattle.lrc_machine.proofs.TurnLemmas.{no_level, opened_hit, opened_begun, opened_deep}
use Rattle.lrc_machine.proofs.MeasureLemmas.{hit, begun}
use Rattle.lrc_machine.proofs.turns.opened.Goals as goal

pub returns-then-level-eq0-clause-turns : goal.returns-then-level-eq0-clause-turns
returns-then-level-eq0-clause-turns g c fuel root turn =
    let b = c.args.bodies.now in
    no_level (g.B.Bodies.form b) (g.B.Bodies.asks b) (g.B.Bodies.gives b) (g.B.Bodies.runs b) (g.B.Bodies.waits b) (g.B.Bodies.fits b) (g.B.Bodies.lacks b) (g.B.Bodies.meets b) (g.B.Bodies.calls b) (g.B.Bodies.whole b)
    (g.met.B.Bodies.lasts b) (g.met.B.Bodies.deep b) (g.met.B.Bodies.within b) fuel root c.args.levels.now.frames.items c.args.levels.now.marks.items
    (g.met.B.Bodies.bottom b) (g.St.Store.state c.args.store.now) c.args.level c.args.inner c.if-level-eq0.true turn

pub returns-in-Hit-clause-turns : goal.returns-in-Hit-clause-turns
returns-in-Hit-clause-turns g c fuel root turn =
    let b = c.args.bodies.now in
    let low = c.if-level-eq0.false in
    let at : c.args.level ≡ suc (c.args.level - 1) = omega arith in
    opened_hit (g.B.Bodies.form b) (g.B.Bodies.asks b) (g.B.Bodies.gives b) (g.B.Bodies.runs b) (g.B.Bodies.waits b) (g.B.Bodies.fits b) (g.B.Bodies.lacks b) (g.B.Bodies.meets b) (g.B.Bodies.calls b) (g.B.Bodies.whole b)
    (g.met.B.Bodies.lasts b) (g.met.B.Bodies.deep b) (g.met.B.Bodies.within b) fuel root c.args.levels.now.frames.items c.args.levels.now.marks.items
    (g.St.Store.state c.args.store.now) (g.St.Store.state c.open.new.store) (c.args.level - 1) c.args.level at c.args.inner c.open.new.frame c.open.ensures.room turn c.in-Hit.given
    (c.open.ensures.gains turn.turn.0 turn.turn.1) (c.in-Hit.ensures.counts turn.turn.0 turn.turn.1) (c.in-Hit.ensures.opens turn.turn.0 turn.turn.1)

pub returns-in-Begun-clause-turns : goal.returns-in-Begun-clause-turns
returns-in-Begun-clause-turns g c fuel root turn =
    let b = c.args.bodies.now in
    let low = c.if-level-eq0.false in
    let at : c.args.level ≡ suc (c.args.level - 1) = omega arith in
    opened_begun (g.B.Bodies.form b) (g.B.Bodies.asks b) (g.B.Bodies.gives b) (g.B.Bodies.runs b) (g.B.Bodies.waits b) (g.B.Bodies.fits b) (g.B.Bodies.lacks b) (g.B.Bodies.meets b) (g.B.Bodies.calls b) (g.B.Bodies.whole b)
    (g.met.B.Bodies.lasts b) (g.met.B.Bodies.deep b) (g.met.B.Bodies.within b) fuel root c.args.levels.now.frames.items c.args.levels.now.marks.items
    (g.St.Store.state c.args.store.now) (g.St.Store.state c.open.new.store) (c.args.level - 1) c.args.level at c.args.inner c.open.new.frame c.open.ensures.room turn c.in-Begun.mark
    (c.open.ensures.gains turn.turn.0 turn.turn.1) (c.in-Begun.ensures.counts turn.turn.0 turn.turn.1) (c.in-Begun.ensures.opens turn.turn.0 turn.turn.1).0

pub returns-in-Deep-clause-turns : goal.returns-in-Deep-clause-turns
returns-in-Deep-clause-turns g c fuel root turn =
    let b = c.args.bodies.now in
    let low = c.if-level-eq0.false in
    let at : c.args.level ≡ suc (c.args.level - 1) = omega arith in
    opened_deep (g.B.Bodies.form b) (g.B.Bodies.asks b) (g.B.Bodies.gives b) (g.B.Bodies.runs b) (g.B.Bodies.waits b) (g.B.Bodies.fits b) (g.B.Bodies.lacks b) (g.B.Bodies.meets b) (g.B.Bodies.calls b) (g.B.Bodies.whole b)
    (g.met.B.Bodies.lasts b) (g.met.B.Bodies.deep b) (g.met.B.Bodies.within b) fuel root c.args.levels.now.frames.items c.args.levels.now.marks.items
    (g.St.Store.state c.args.store.now) (g.St.Store.state c.open.new.store) (c.args.level - 1) c.args.level at c.args.inner c.open.new.frame c.open.ensures.room turn
    (c.open.ensures.gains turn.turn.0 turn.turn.1) (c.in-Deep.ensures.counts turn.turn.0 turn.turn.1) (c.in-Deep.ensures.opens turn.turn.0 turn.turn.1)

pub returns-in-Hit-clause-falls : goal.returns-in-Hit-clause-falls
returns-in-Hit-clause-falls g c = hit (g.B.Bodies.left c.args.bodies.now) (g.B.Bodies.most c.args.bodies.now) c.args.levels.now.marks.items c.args.level

pub returns-in-Begun-clause-falls : goal.returns-in-Begun-clause-falls
returns-in-Begun-clause-falls g c =
    let b = c.args.bodies.now in
    let left = g.B.Bodies.left b in
    let most = g.B.Bodies.most b in
    let marks = c.args.levels.now.marks.items in
    let low = c.if-level-eq0.false in
    let at : suc (c.args.level - 1) ≡ c.args.level = omega arith in
    let turn = c.requires.turn.2 in
    subst (λ n. weigh (base most) (c.args.level - 1) (suc (3 * left c.in-Begun.mark + times (base most) (digits left most (drop (suc (c.args.level - 1)) marks)))) < weigh (base most) n (suc (digits left most (drop n marks)))) at
    (begun left most marks (c.args.level - 1) c.in-Begun.mark (c.in-Begun.ensures.opens turn.turn.0 turn.turn.1).1)
