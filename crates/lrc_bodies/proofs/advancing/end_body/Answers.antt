use Rattle.lrc_bodies.proofs.EndLemmas.{walked, can_end, end_stopped, call_known, made_known, may_remember, all_reached, body_ended}
use Rattle.lrc_bodies.proofs.advancing.end_body.Goals as goal

pub finish-requires : goal.finish-requires
finish-requires g c =
    let q = c.requires in
    let s = g.St.Store.state c.args.store.now in
    let meaning = g.St.Store.meaning c.args.store.now in (
      q.0,
      q.1,
      q.4.runs.run,
      q.3.visit,
      walked q.0 q.1 s c.args.frame.now q.2 q.3 c.args.mark c.args.function.now meaning q.4,
      can_end q.0 q.1 s c.args.frame.now q.2 q.3 c.args.mark c.args.function.now meaning q.4,
    )

pub returns-in_err-outcome-clause-ends : goal.returns-in_err-outcome-clause-ends
returns-in_err-outcome-clause-ends g c gr parts fuel call end =
    let s = g.St.Store.state c.args.store.now in
    let meaning = g.St.Store.meaning c.args.store.now in
    end_stopped gr parts s c.args.frame.now fuel call c.args.mark c.args.function.now meaning end (g.St.Store.state c.finish.new.store) _ _ c.from_residual.ensures.0
    (c.in_err-outcome.ensures.ends _ _ _ _ _ (can_end gr parts s c.args.frame.now fuel call c.args.mark c.args.function.now meaning end))

pub remember-requires-clause-call_known : goal.remember-requires-clause-call_known
remember-requires-clause-call_known g c =
    let q = c.requires in
    let s = g.St.Store.state c.args.store.now in
    let meaning = g.St.Store.meaning c.args.store.now in
    call_known q.0 q.1 s c.args.frame.now q.2 q.3 c.args.mark c.args.function.now meaning q.4 (g.St.Store.state c.finish.new.store) c.in_ok-outcome.outcome c.published.ensures.sound
    (c.in_ok-outcome.ensures.ends _ _ _ _ _ (can_end q.0 q.1 s c.args.frame.now q.2 q.3 c.args.mark c.args.function.now meaning q.4))

pub remember-requires-clause-outcome_known : goal.remember-requires-clause-outcome_known
remember-requires-clause-outcome_known g c =
    let q = c.requires in
    let s = g.St.Store.state c.args.store.now in
    let meaning = g.St.Store.meaning c.args.store.now in
    made_known q.0 q.1 s c.args.frame.now q.2 q.3 c.args.mark c.args.function.now meaning q.4 (g.St.Store.state c.finish.new.store) c.in_ok-outcome.outcome c.published.ensures.sound
    (c.in_ok-outcome.ensures.ends _ _ _ _ _ (can_end q.0 q.1 s c.args.frame.now q.2 q.3 c.args.mark c.args.function.now meaning q.4))

pub remember-requires-clause-allowed : goal.remember-requires-clause-allowed
remember-requires-clause-allowed g c =
    let q = c.requires in
    let s = g.St.Store.state c.args.store.now in
    let meaning = g.St.Store.meaning c.args.store.now in
    may_remember q.0 q.1 s c.args.frame.now q.2 q.3 c.args.mark c.args.function.now meaning q.4 (g.St.Store.state c.finish.new.store) c.in_ok-outcome.outcome c.published.ensures.sound
    (c.in_ok-outcome.ensures.ends _ _ _ _ _ (can_end q.0 q.1 s c.args.frame.now q.2 q.3 c.args.mark c.args.function.now meaning q.4))
    (g.St.Store.meaning c.finish.new.store) c.finish.ensures.same_meaning

pub remember-requires-clause-reached : goal.remember-requires-clause-reached
remember-requires-clause-reached g c =
    let q = c.requires in
    let s = g.St.Store.state c.args.store.now in
    let meaning = g.St.Store.meaning c.args.store.now in
    all_reached q.0 q.1 s c.args.frame.now q.2 q.3 c.args.mark c.args.function.now meaning q.4 (g.St.Store.state c.finish.new.store) c.in_ok-outcome.outcome c.published.ensures.sound
    (c.in_ok-outcome.ensures.ends _ _ _ _ _ (can_end q.0 q.1 s c.args.frame.now q.2 q.3 c.args.mark c.args.function.now meaning q.4))
    (g.St.Store.meaning c.finish.new.store) c.finish.ensures.same_meaning

pub returns-clause-ends : goal.returns-clause-ends
returns-clause-ends g c gr parts fuel call end =
    let s = g.St.Store.state c.args.store.now in
    let meaning = g.St.Store.meaning c.args.store.now in
    body_ended gr parts s c.args.frame.now fuel call c.args.mark c.args.function.now meaning end (g.St.Store.state c.finish.new.store) c.in_ok-outcome.outcome c.published.ensures.sound
    (c.in_ok-outcome.ensures.ends _ _ _ _ _ (can_end gr parts s c.args.frame.now fuel call c.args.mark c.args.function.now meaning end))
    (g.St.Store.state c.remember.new.self) c.remember.ensures.stays c.remember.ensures.same_missed c.remember.ensures.gains
