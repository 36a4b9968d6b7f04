use Rattle.std.proofs.Common.{refl, ◌∙◌, arith}
use Rattle.std.proofs.lemmas.Result.{IfOk-at_ok, IfErr-at_err}
use Rattle.lrc_store.proofs.Lasting.{gains-same, gains-then}
use Rattle.lrc_machine.specs.Waits.{whole}
use Rattle.lrc_machine.specs.Counts.{IsCellOf, Ticks}
use Rattle.lrc_machine.specs.Machine.{IsInner, AtTurn, Stops}
use Rattle.lrc_machine.specs.Levels.{slots_of}
use Rattle.lrc_machine.proofs.CountLemmas.{counts_start, ticked}
use Rattle.lrc_machine.proofs.RunLemmas.{is_inner, is_below, is_given, is_counted}
use Rattle.lrc_machine.proofs.running.run.Goals as goal
use Rattle.lrc_machine.proofs.running.run.Goals.{in-Answer+else-turn-fuel, in_default}

pub turns-init : goal.turns-init
turns-init g c =
    let small = c.ranges.fuel.fits in
    record {
      gains = λ root asked. gains-same (g.St.Store.state c.args.store.now) (g.B.Bodies.meets c.args.bodies.now c.args.fuel root);
      at = λ root asked. record { small = small; levels = c.requires.levels; turn = (root, asked, whole refl refl) };
      wholes = λ known. known;
      counts = λ root asked. counts_start (IsCellOf (g.B.Bodies.form c.args.bodies.now) (g.B.Bodies.calls c.args.bodies.now c.args.fuel root)) c.args.fuel (g.St.Store.state c.args.store.now)
          (let fits = c.missed.type_inv in let told = c.missed.ensures in omega (arith, fits, told));
      same_meaning = refl;
    }

pub returns-then-turn-fuel-clause-gives : goal.returns-then-turn-fuel-clause-gives
returns-then-turn-fuel-clause-gives g c root asked =
    let b = c.args.bodies.now in
    is_given (g.B.Bodies.form b) (g.B.Bodies.asks b) (g.B.Bodies.gives b) (g.B.Bodies.runs b) (g.B.Bodies.waits b) (g.B.Bodies.fits b) (g.St.Store.state c.turns.store) (slots_of c.turns.levels)
    c.args.fuel root c.turns.turn.level c.turns.turn.step (c.turns.invariant.at root asked) c.in-Answer.given c.in-Answer.is c.if-turn-fuel.true

pub returns-in-Err-clause-levels : goal.returns-in-Err-clause-levels
returns-in-Err-clause-levels g c =
    let root = c.requires.call.0 in
    let asked = c.requires.call.1 in
    let b = c.args.bodies.now in
    let at = c.turns.invariant.at root asked in
    let inner : IsInner c.args.fuel c.turns.turn.level c.turns.turn.step =
    elim c.match-turn.branch [
      | in-Answer+else-turn-fuel w ↦
          is_inner c.args.fuel c.turns.turn.level c.turns.turn.step
          (λ handle is. is_below (g.B.Bodies.form b) (g.B.Bodies.asks b) (g.B.Bodies.gives b) (g.B.Bodies.runs b) (g.B.Bodies.waits b) (g.B.Bodies.fits b) (g.St.Store.state c.turns.store) (slots_of c.turns.levels)
          c.args.fuel root c.turns.turn.level c.turns.turn.step at handle is w.if-turn-fuel.false)
      | in_default w ↦ is_inner c.args.fuel c.turns.turn.level c.turns.turn.step (λ handle is. absurd (w.in_default.not-Answer handle is))
    ] in
    let turns = c.next.ensures.turns c.args.fuel root inner at in
    turns.keeps

pub returns-in-Err-clause-gains : goal.returns-in-Err-clause-gains
returns-in-Err-clause-gains g c root asked =
    let b = c.args.bodies.now in
    let at = c.turns.invariant.at root asked in
    let inner : IsInner c.args.fuel c.turns.turn.level c.turns.turn.step =
    elim c.match-turn.branch [
      | in-Answer+else-turn-fuel w ↦
          is_inner c.args.fuel c.turns.turn.level c.turns.turn.step
          (λ handle is. is_below (g.B.Bodies.form b) (g.B.Bodies.asks b) (g.B.Bodies.gives b) (g.B.Bodies.runs b) (g.B.Bodies.waits b) (g.B.Bodies.fits b) (g.St.Store.state c.turns.store) (slots_of c.turns.levels)
          c.args.fuel root c.turns.turn.level c.turns.turn.step at handle is w.if-turn-fuel.false)
      | in_default w ↦ is_inner c.args.fuel c.turns.turn.level c.turns.turn.step (λ handle is. absurd (w.in_default.not-Answer handle is))
    ] in
    let turns = c.next.ensures.turns c.args.fuel root inner at in
    gains-then (g.St.Store.state c.args.store.now) (g.St.Store.state c.turns.store) (g.St.Store.state c.next.new.store) (g.B.Bodies.meets b c.args.fuel root) (c.turns.invariant.gains root asked) turns.gains

pub returns-in-Err-clause-stops : goal.returns-in-Err-clause-stops
returns-in-Err-clause-stops g c root asked =
    let b = c.args.bodies.now in
    let at = c.turns.invariant.at root asked in
    let inner : IsInner c.args.fuel c.turns.turn.level c.turns.turn.step =
    elim c.match-turn.branch [
      | in-Answer+else-turn-fuel w ↦
          is_inner c.args.fuel c.turns.turn.level c.turns.turn.step
          (λ handle is. is_below (g.B.Bodies.form b) (g.B.Bodies.asks b) (g.B.Bodies.gives b) (g.B.Bodies.runs b) (g.B.Bodies.waits b) (g.B.Bodies.fits b) (g.St.Store.state c.turns.store) (slots_of c.turns.levels)
          c.args.fuel root c.turns.turn.level c.turns.turn.step at handle is w.if-turn-fuel.false)
      | in_default w ↦ is_inner c.args.fuel c.turns.turn.level c.turns.turn.step (λ handle is. absurd (w.in_default.not-Answer handle is))
    ] in
    let turns = c.next.ensures.turns c.args.fuel root inner at in
    IfErr-at_err (Stops (g.St.Store.state c.next.new.store) (g.B.Bodies.meets b c.args.fuel root) (g.B.Bodies.lacks b c.args.fuel root)) c.in-Err.is turns.stop

pub turns-preserved : goal.turns-preserved
turns-preserved g c =
    record {
      gains = λ root asked.
          let b = c.args.bodies.now in
          let at = c.turns.invariant.at root asked in
          let inner : IsInner c.args.fuel c.turns.turn.level c.turns.turn.step =
          elim c.match-turn.branch [
            | in-Answer+else-turn-fuel w ↦
                is_inner c.args.fuel c.turns.turn.level c.turns.turn.step
                (λ handle is. is_below (g.B.Bodies.form b) (g.B.Bodies.asks b) (g.B.Bodies.gives b) (g.B.Bodies.runs b) (g.B.Bodies.waits b) (g.B.Bodies.fits b) (g.St.Store.state c.turns.store) (slots_of c.turns.levels)
                c.args.fuel root c.turns.turn.level c.turns.turn.step at handle is w.if-turn-fuel.false)
            | in_default w ↦ is_inner c.args.fuel c.turns.turn.level c.turns.turn.step (λ handle is. absurd (w.in_default.not-Answer handle is))
          ] in
          let turns = c.next.ensures.turns c.args.fuel root inner at in
          gains-then (g.St.Store.state c.args.store.now) (g.St.Store.state c.turns.store) (g.St.Store.state c.next.new.store) (g.B.Bodies.meets b c.args.fuel root) (c.turns.invariant.gains root asked) turns.gains;
      at = λ root asked.
          let b = c.args.bodies.now in
          let at = c.turns.invariant.at root asked in
          let inner : IsInner c.args.fuel c.turns.turn.level c.turns.turn.step =
          elim c.match-turn.branch [
            | in-Answer+else-turn-fuel w ↦
                is_inner c.args.fuel c.turns.turn.level c.turns.turn.step
                (λ handle is. is_below (g.B.Bodies.form b) (g.B.Bodies.asks b) (g.B.Bodies.gives b) (g.B.Bodies.runs b) (g.B.Bodies.waits b) (g.B.Bodies.fits b) (g.St.Store.state c.turns.store) (slots_of c.turns.levels)
                c.args.fuel root c.turns.turn.level c.turns.turn.step at handle is w.if-turn-fuel.false)
            | in_default w ↦ is_inner c.args.fuel c.turns.turn.level c.turns.turn.step (λ handle is. absurd (w.in_default.not-Answer handle is))
          ] in
          let turns = c.next.ensures.turns c.args.fuel root inner at in
          IfOk-at_ok (λ turn. AtTurn (g.B.Bodies.form b) (g.B.Bodies.asks b) (g.B.Bodies.gives b) (g.B.Bodies.runs b) (g.B.Bodies.waits b) (g.B.Bodies.fits b) (g.St.Store.state c.next.new.store) (slots_of c.next.new.levels) c.args.fuel root turn.level turn.step) c.in-Ok.is turns.ok;
      wholes = λ known.
          let b = c.args.bodies.now in
          let at = c.turns.invariant.at c.requires.call.0 c.requires.call.1 in
          let inner : IsInner c.args.fuel c.turns.turn.level c.turns.turn.step =
          elim c.match-turn.branch [
            | in-Answer+else-turn-fuel w ↦
                is_inner c.args.fuel c.turns.turn.level c.turns.turn.step
                (λ handle is. is_below (g.B.Bodies.form b) (g.B.Bodies.asks b) (g.B.Bodies.gives b) (g.B.Bodies.runs b) (g.B.Bodies.waits b) (g.B.Bodies.fits b) (g.St.Store.state c.turns.store) (slots_of c.turns.levels)
                c.args.fuel c.requires.call.0 c.turns.turn.level c.turns.turn.step at handle is w.if-turn-fuel.false)
            | in_default w ↦ is_inner c.args.fuel c.turns.turn.level c.turns.turn.step (λ handle is. absurd (w.in_default.not-Answer handle is))
          ] in
          let turns = c.next.ensures.turns c.args.fuel c.requires.call.0 inner at in
          turns.wholes (c.turns.invariant.wholes known);
      counts = λ root asked.
          let b = c.args.bodies.now in
          let at = c.turns.invariant.at root asked in
          let inner : IsInner c.args.fuel c.turns.turn.level c.turns.turn.step =
          elim c.match-turn.branch [
            | in-Answer+else-turn-fuel w ↦
                is_inner c.args.fuel c.turns.turn.level c.turns.turn.step
                (λ handle is. is_below (g.B.Bodies.form b) (g.B.Bodies.asks b) (g.B.Bodies.gives b) (g.B.Bodies.runs b) (g.B.Bodies.waits b) (g.B.Bodies.fits b) (g.St.Store.state c.turns.store) (slots_of c.turns.levels)
                c.args.fuel root c.turns.turn.level c.turns.turn.step at handle is w.if-turn-fuel.false)
            | in_default w ↦ is_inner c.args.fuel c.turns.turn.level c.turns.turn.step (λ handle is. absurd (w.in_default.not-Answer handle is))
          ] in
          let turns = c.next.ensures.turns c.args.fuel root inner at in
          let is_met = IsCellOf (g.B.Bodies.form b) (g.B.Bodies.calls b c.args.fuel root) in
          ticked is_met c.args.fuel (g.St.Store.state c.args.store.now) (g.St.Store.state c.turns.store) (g.St.Store.state c.next.new.store) c.turns.turn.level c.in-Ok.turn.level
          (IfOk-at_ok (λ turn. Ticks is_met c.args.fuel (g.St.Store.state c.turns.store) (g.St.Store.state c.next.new.store) c.turns.turn.level turn.level) c.in-Ok.is turns.counts)
          (c.turns.invariant.counts root asked);
      same_meaning = c.next.ensures.same_meaning ∙ c.turns.invariant.same_meaning;
    }

pub returns-in-Err-clause-wholes : goal.returns-in-Err-clause-wholes
returns-in-Err-clause-wholes g c known =
    let b = c.args.bodies.now in
    let at = c.turns.invariant.at c.requires.call.0 c.requires.call.1 in
    let inner : IsInner c.args.fuel c.turns.turn.level c.turns.turn.step =
    elim c.match-turn.branch [
      | in-Answer+else-turn-fuel w ↦
          is_inner c.args.fuel c.turns.turn.level c.turns.turn.step
          (λ handle is. is_below (g.B.Bodies.form b) (g.B.Bodies.asks b) (g.B.Bodies.gives b) (g.B.Bodies.runs b) (g.B.Bodies.waits b) (g.B.Bodies.fits b) (g.St.Store.state c.turns.store) (slots_of c.turns.levels)
          c.args.fuel c.requires.call.0 c.turns.turn.level c.turns.turn.step at handle is w.if-turn-fuel.false)
      | in_default w ↦ is_inner c.args.fuel c.turns.turn.level c.turns.turn.step (λ handle is. absurd (w.in_default.not-Answer handle is))
    ] in
    let turns = c.next.ensures.turns c.args.fuel c.requires.call.0 inner at in
    turns.wholes (c.turns.invariant.wholes known)

pub returns-then-turn-fuel-clause-counted : goal.returns-then-turn-fuel-clause-counted
returns-then-turn-fuel-clause-counted g c root asked known =
    let b = c.args.bodies.now in
    is_counted (g.B.Bodies.form b) (g.B.Bodies.asks b) (g.B.Bodies.gives b) (g.B.Bodies.runs b) (g.B.Bodies.waits b) (g.B.Bodies.fits b) (g.St.Store.state c.turns.store) (slots_of c.turns.levels)
    c.args.fuel root c.turns.turn.level c.turns.turn.step (c.turns.invariant.at root asked) c.in-Answer.given c.in-Answer.is
    (g.B.Bodies.calls b) (g.B.Bodies.whole b) (g.met.B.Bodies.sure b) (g.St.Store.state c.args.store.now) (c.turns.invariant.wholes known) c.if-turn-fuel.true (c.turns.invariant.counts root asked)
