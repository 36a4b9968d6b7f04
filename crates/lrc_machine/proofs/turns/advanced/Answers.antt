use Rattle.std.proofs.Common.{◌≡◌, suc, ◌+◌, ◌*◌, ◌<◌, length, drop, slice_set, subst, arith}
use Rattle.lrc_machine.specs.Measure.{times, weigh, base, digits}
use Rattle.lrc_machine.proofs.WaitLemmas.{frame_is, set_here}
use Rattle.lrc_machine.proofs.MoveLemmas.{of_went, of_asked, of_ended, of_deep}
use Rattle.lrc_machine.proofs.TurnLemmas.{went_on, asked_for, ended_with, went_deep, got_full}
use Rattle.lrc_machine.proofs.MeasureLemmas.{drop_set, went, asked, ended}
use Rattle.lrc_machine.proofs.turns.advanced.Goals as goal

pub returns-in-Err-clause-turns : goal.returns-in-Err-clause-turns
returns-in-Err-clause-turns g c fuel root turn =
    let b = c.args.bodies.now in
    let body = turn.turn.2 in
    let same : body.frame ≡ c.index_mut-frame.result.now = frame_is c.args.levels.now.frames.items c.args.level body.frame c.index_mut-frame.result.now body.has_frame c.index_mut-frame.ensures.value in
    let running = subst (λ f. g.B.Bodies.runs b (g.St.Store.state c.args.store.now) f c.args.level turn.turn.0 c.args.mark) same body.runs_at in
    got_full (g.B.Bodies.form b) (g.B.Bodies.asks b) (g.B.Bodies.gives b) (g.B.Bodies.runs b) (g.B.Bodies.waits b) (g.B.Bodies.fits b) (g.B.Bodies.lacks b) (g.B.Bodies.meets b) (g.B.Bodies.calls b) (g.B.Bodies.whole b)
    (g.met.B.Bodies.lasts b) (g.met.B.Bodies.deep b) (g.met.B.Bodies.within b) fuel root c.args.levels.now.frames.items c.args.levels.now.marks.items
    (g.St.Store.state c.args.store.now) (g.St.Store.state c.advance.new.store) c.args.level c.args.mark c.advance.new.frame c.advance.ensures.room turn
    (c.advance.ensures.gains turn.turn.0 running) (c.advance.ensures.wholes turn.turn.0 running) (c.in-Err.ensures.full turn.turn.0 running)

pub returns-in-Went-clause-turns : goal.returns-in-Went-clause-turns
returns-in-Went-clause-turns g c fuel root turn =
    let b = c.args.bodies.now in
    let body = turn.turn.2 in
    let same : body.frame ≡ c.index_mut-frame.result.now = frame_is c.args.levels.now.frames.items c.args.level body.frame c.index_mut-frame.result.now body.has_frame c.index_mut-frame.ensures.value in
    let running = subst (λ f. g.B.Bodies.runs b (g.St.Store.state c.args.store.now) f c.args.level turn.turn.0 c.args.mark) same body.runs_at in
    let moves = of_went _ _ _ _ c.in-Ok.moved c.in-Went.next c.in-Went.is (c.in-Ok.ensures.moves turn.turn.0 running) in
    went_on (g.B.Bodies.form b) (g.B.Bodies.asks b) (g.B.Bodies.gives b) (g.B.Bodies.runs b) (g.B.Bodies.waits b) (g.B.Bodies.fits b) (g.B.Bodies.lacks b) (g.B.Bodies.meets b) (g.B.Bodies.calls b) (g.B.Bodies.whole b)
    (g.met.B.Bodies.lasts b) (g.met.B.Bodies.deep b) (g.met.B.Bodies.within b) fuel root c.args.levels.now.frames.items c.args.levels.now.marks.items
    (g.St.Store.state c.args.store.now) (g.St.Store.state c.advance.new.store) c.args.level c.args.mark c.advance.new.frame c.advance.ensures.room turn
    c.in-Went.next (c.advance.ensures.gains turn.turn.0 running) (of_went _ _ _ _ c.in-Ok.moved c.in-Went.next c.in-Went.is (c.in-Ok.ensures.counts turn.turn.0 running)) moves.0

pub returns-in-Asked-clause-turns : goal.returns-in-Asked-clause-turns
returns-in-Asked-clause-turns g c fuel root turn =
    let b = c.args.bodies.now in
    let body = turn.turn.2 in
    let same : body.frame ≡ c.index_mut-frame.result.now = frame_is c.args.levels.now.frames.items c.args.level body.frame c.index_mut-frame.result.now body.has_frame c.index_mut-frame.ensures.value in
    let running = subst (λ f. g.B.Bodies.runs b (g.St.Store.state c.args.store.now) f c.args.level turn.turn.0 c.args.mark) same body.runs_at in
    let moves = of_asked _ _ _ _ c.in-Ok.moved c.in-Asked.waiting c.in-Asked.inner c.in-Asked.is (c.in-Ok.ensures.moves turn.turn.0 running) in
    asked_for (g.B.Bodies.form b) (g.B.Bodies.asks b) (g.B.Bodies.gives b) (g.B.Bodies.runs b) (g.B.Bodies.waits b) (g.B.Bodies.fits b) (g.B.Bodies.lacks b) (g.B.Bodies.meets b) (g.B.Bodies.calls b) (g.B.Bodies.whole b)
    (g.met.B.Bodies.lasts b) (g.met.B.Bodies.deep b) (g.met.B.Bodies.within b) fuel root c.args.levels.now.frames.items c.args.levels.now.marks.items
    (g.St.Store.state c.args.store.now) (g.St.Store.state c.advance.new.store) c.args.level c.args.mark c.advance.new.frame c.advance.ensures.room turn
    c.in-Asked.waiting moves.0 c.in-Asked.inner (c.advance.ensures.gains turn.turn.0 running) (of_asked _ _ _ _ c.in-Ok.moved c.in-Asked.waiting c.in-Asked.inner c.in-Asked.is (c.in-Ok.ensures.counts turn.turn.0 running)) moves.1 moves.2

pub returns-in-Ended-clause-turns : goal.returns-in-Ended-clause-turns
returns-in-Ended-clause-turns g c fuel root turn =
    let b = c.args.bodies.now in
    let body = turn.turn.2 in
    let same : body.frame ≡ c.index_mut-frame.result.now = frame_is c.args.levels.now.frames.items c.args.level body.frame c.index_mut-frame.result.now body.has_frame c.index_mut-frame.ensures.value in
    let running = subst (λ f. g.B.Bodies.runs b (g.St.Store.state c.args.store.now) f c.args.level turn.turn.0 c.args.mark) same body.runs_at in
    ended_with (g.B.Bodies.form b) (g.B.Bodies.asks b) (g.B.Bodies.gives b) (g.B.Bodies.runs b) (g.B.Bodies.waits b) (g.B.Bodies.fits b) (g.B.Bodies.lacks b) (g.B.Bodies.meets b) (g.B.Bodies.calls b) (g.B.Bodies.whole b)
    (g.met.B.Bodies.lasts b) (g.met.B.Bodies.deep b) (g.met.B.Bodies.within b) fuel root c.args.levels.now.frames.items c.args.levels.now.marks.items
    (g.St.Store.state c.args.store.now) (g.St.Store.state c.advance.new.store) c.args.level c.args.mark c.advance.new.frame c.advance.ensures.room turn
    (g.B.Bodies.height b) (g.met.B.Bodies.own b) (g.met.B.Bodies.calls_within b) (g.met.B.Bodies.one_height b) (g.met.B.Bodies.lower b) (g.met.B.Bodies.same_height b)
    c.index_mut-frame.result.now running c.in-Ended.given (of_ended _ _ _ _ c.in-Ok.moved c.in-Ended.given c.in-Ended.is (c.in-Ok.ensures.moves turn.turn.0 running))
    (of_ended _ _ _ _ c.in-Ok.moved c.in-Ended.given c.in-Ended.is (c.in-Ok.ensures.counts turn.turn.0 running))
    (c.args.level + 1) (omega arith) (c.advance.ensures.gains turn.turn.0 running) (c.advance.ensures.wholes turn.turn.0 running)

pub returns-in-Deep-clause-turns : goal.returns-in-Deep-clause-turns
returns-in-Deep-clause-turns g c fuel root turn =
    let b = c.args.bodies.now in
    let body = turn.turn.2 in
    let same : body.frame ≡ c.index_mut-frame.result.now = frame_is c.args.levels.now.frames.items c.args.level body.frame c.index_mut-frame.result.now body.has_frame c.index_mut-frame.ensures.value in
    let running = subst (λ f. g.B.Bodies.runs b (g.St.Store.state c.args.store.now) f c.args.level turn.turn.0 c.args.mark) same body.runs_at in
    went_deep (g.B.Bodies.form b) (g.B.Bodies.asks b) (g.B.Bodies.gives b) (g.B.Bodies.runs b) (g.B.Bodies.waits b) (g.B.Bodies.fits b) (g.B.Bodies.lacks b) (g.B.Bodies.meets b) (g.B.Bodies.calls b) (g.B.Bodies.whole b)
    (g.met.B.Bodies.lasts b) (g.met.B.Bodies.deep b) (g.met.B.Bodies.within b) fuel root c.args.levels.now.frames.items c.args.levels.now.marks.items
    (g.St.Store.state c.args.store.now) (g.St.Store.state c.advance.new.store) c.args.level c.args.mark c.advance.new.frame c.advance.ensures.room turn
    (c.advance.ensures.gains turn.turn.0 running) (c.advance.ensures.wholes turn.turn.0 running) (of_deep _ _ _ _ c.in-Ok.moved c.in-Deep.is (c.in-Ok.ensures.moves turn.turn.0 running))

pub overflow_add-result : goal.overflow_add-result
overflow_add-result g c =
    let turn = c.requires.turn.2 in
    let less = turn.turn.1 in
    let small = turn.small in
    omega arith

pub returns-in-Went-clause-falls : goal.returns-in-Went-clause-falls
returns-in-Went-clause-falls g c =
    let turn = c.requires.turn.2 in
    let b = c.args.bodies.now in
    let body = turn.turn.2 in
    let same : body.frame ≡ c.index_mut-frame.result.now = frame_is c.args.levels.now.frames.items c.args.level body.frame c.index_mut-frame.result.now body.has_frame c.index_mut-frame.ensures.value in
    let running = subst (λ f. g.B.Bodies.runs b (g.St.Store.state c.args.store.now) f c.args.level turn.turn.0 c.args.mark) same body.runs_at in
    let left = g.B.Bodies.left b in
    let most = g.B.Bodies.most b in
    let marks = c.args.levels.now.marks.items in
    let moves = of_went _ _ _ _ c.in-Ok.moved c.in-Went.next c.in-Went.is (c.in-Ok.ensures.moves turn.turn.0 running) in
    went left most marks c.args.level c.args.mark c.in-Went.next moves.1

pub returns-in-Asked-clause-falls : goal.returns-in-Asked-clause-falls
returns-in-Asked-clause-falls g c =
    let turn = c.requires.turn.2 in
    let b = c.args.bodies.now in
    let body = turn.turn.2 in
    let same : body.frame ≡ c.index_mut-frame.result.now = frame_is c.args.levels.now.frames.items c.args.level body.frame c.index_mut-frame.result.now body.has_frame c.index_mut-frame.ensures.value in
    let running = subst (λ f. g.B.Bodies.runs b (g.St.Store.state c.args.store.now) f c.args.level turn.turn.0 c.args.mark) same body.runs_at in
    let left = g.B.Bodies.left b in
    let most = g.B.Bodies.most b in
    let marks = c.args.levels.now.marks.items in
    let moves = of_asked _ _ _ _ c.in-Ok.moved c.in-Asked.waiting c.in-Asked.inner c.in-Asked.is (c.in-Ok.ensures.moves turn.turn.0 running) in
    let less = turn.turn.1 in
    let has = turn.levels.marks in
    let room : c.args.level < length marks = omega arith in
    asked left most marks (slice_set marks c.args.level c.in-Asked.waiting) c.args.level c.args.mark c.in-Asked.waiting (set_here marks c.args.level c.in-Asked.waiting room)
    (drop_set marks c.args.level (suc c.args.level) c.in-Asked.waiting (omega arith)) moves.3 moves.4

pub returns-in-Ended-clause-falls : goal.returns-in-Ended-clause-falls
returns-in-Ended-clause-falls g c =
    let b = c.args.bodies.now in
    let left = g.B.Bodies.left b in
    let most = g.B.Bodies.most b in
    let marks = c.args.levels.now.marks.items in
    let at : suc c.args.level ≡ c.args.level + 1 = omega arith in
    subst (λ n. weigh (base most) n (digits left most (drop n marks)) < weigh (base most) c.args.level (suc (3 * left c.args.mark + times (base most) (digits left most (drop (suc c.args.level) marks))))) at
    (ended left most marks c.args.level c.args.mark)
