use Rattle.std.proofs.Common.{◌≡◌, Some, slice_get, subst, ap, ◌∙◌}
use Rattle.lrc_machine.proofs.WaitLemmas.{frame_is}
use Rattle.lrc_machine.proofs.TurnLemmas.{waiter, resumed_at}
use Rattle.lrc_machine.proofs.MeasureLemmas.{resumed}
use Rattle.lrc_machine.proofs.turns.resumed.Goals as goal

pub returns-clause-turns : goal.returns-clause-turns
returns-clause-turns g c fuel root less turn =
    let b = c.args.bodies.now in
    let s = g.St.Store.state c.args.store.now in
    let fit = c.resume-next.ensures.room in
    let found = waiter (g.B.Bodies.form b) (g.B.Bodies.asks b) (g.B.Bodies.gives b) (g.B.Bodies.runs b) (g.B.Bodies.waits b) (g.B.Bodies.fits b) (g.B.Bodies.lacks b) (g.B.Bodies.meets b) (g.B.Bodies.calls b) (g.B.Bodies.whole b)
    (g.met.B.Bodies.lasts b) (g.met.B.Bodies.deep b) (g.met.B.Bodies.within b) fuel root c.args.levels.now.frames.items c.args.levels.now.marks.items
    s (g.St.Store.state c.resume-next.new.store) c.args.level c.args.given c.resume-next.new.frame fit turn less in
    let w = found.1 in
    let same_frame : w.frame ≡ c.index_mut-frame.result.now = frame_is c.args.levels.now.frames.items c.args.level w.frame c.index_mut-frame.result.now w.has_frame c.index_mut-frame.ensures.value in
    let same_mark : w.mark ≡ c.index-mark.result.now = frame_is c.args.levels.now.marks.items c.args.level w.mark c.index-mark.result.now w.has_mark c.index-mark.ensures in
    let waits = subst (λ m. g.B.Bodies.waits b s c.index_mut-frame.result.now c.args.level found.0 m turn.turn.0) same_mark
    (subst (λ f. g.B.Bodies.waits b s f c.args.level found.0 w.mark turn.turn.0) same_frame w.waits_for) in
    resumed_at (g.B.Bodies.form b) (g.B.Bodies.asks b) (g.B.Bodies.gives b) (g.B.Bodies.runs b) (g.B.Bodies.waits b) (g.B.Bodies.fits b) (g.B.Bodies.lacks b) (g.B.Bodies.meets b) (g.B.Bodies.calls b) (g.B.Bodies.whole b)
    (g.met.B.Bodies.lasts b) (g.met.B.Bodies.deep b) (g.met.B.Bodies.within b) fuel root c.args.levels.now.frames.items c.args.levels.now.marks.items
    s (g.St.Store.state c.resume-next.new.store) c.args.level c.args.given c.resume-next.new.frame fit turn less
    c.resume-next.result (c.resume-next.ensures.gains found.0 turn.turn.0 waits turn.turn.1) c.resume-next.ensures.kept (c.resume-next.ensures.runs found.0 turn.turn.0 waits turn.turn.1).0

pub returns-clause-falls : goal.returns-clause-falls
returns-clause-falls g c =
    let fuel = c.requires.turn.0 in
    let root = c.requires.turn.1 in
    let less = c.requires.turn.2 in
    let turn = c.requires.turn.3 in
    let b = c.args.bodies.now in
    let s = g.St.Store.state c.args.store.now in
    let fit = c.resume-next.ensures.room in
    let found = waiter (g.B.Bodies.form b) (g.B.Bodies.asks b) (g.B.Bodies.gives b) (g.B.Bodies.runs b) (g.B.Bodies.waits b) (g.B.Bodies.fits b) (g.B.Bodies.lacks b) (g.B.Bodies.meets b) (g.B.Bodies.calls b) (g.B.Bodies.whole b)
    (g.met.B.Bodies.lasts b) (g.met.B.Bodies.deep b) (g.met.B.Bodies.within b) fuel root c.args.levels.now.frames.items c.args.levels.now.marks.items
    s (g.St.Store.state c.resume-next.new.store) c.args.level c.args.given c.resume-next.new.frame fit turn less in
    let w = found.1 in
    let same_frame : w.frame ≡ c.index_mut-frame.result.now = frame_is c.args.levels.now.frames.items c.args.level w.frame c.index_mut-frame.result.now w.has_frame c.index_mut-frame.ensures.value in
    let same_mark : w.mark ≡ c.index-mark.result.now = frame_is c.args.levels.now.marks.items c.args.level w.mark c.index-mark.result.now w.has_mark c.index-mark.ensures in
    let waits = subst (λ m. g.B.Bodies.waits b s c.index_mut-frame.result.now c.args.level found.0 m turn.turn.0) same_mark
    (subst (λ f. g.B.Bodies.waits b s f c.args.level found.0 w.mark turn.turn.0) same_frame w.waits_for) in
    let there : slice_get c.args.levels.now.marks.items c.args.level ≡ Some c.index-mark.result.now = w.has_mark ∙ ap Some same_mark in
    resumed (g.B.Bodies.left b) (g.B.Bodies.most b) c.args.levels.now.marks.items c.args.level c.index-mark.result.now c.resume-next.result there
    (c.resume-next.ensures.runs found.0 turn.turn.0 waits turn.turn.1).1
