use Rattle.std.proofs.Common.{rules, ◌≡◌, ◌+◌, max, ap, arith, refl}
use Rattle.lrc_grammar.specs.Grammar.{grammar_of}
use Rattle.lrc_bodies.specs.declared.mark.Mark.{Mark}
use Rattle.lrc_bodies.proofs.ResumeLemmas.{takes_from, left_falls, goes_on}
use Rattle.lrc_bodies.proofs.resuming.resume_body.Goals as goal

pub take_result-height-requires : goal.take_result-height-requires
take_result-height-requires g c =
    let plan = c.args.functions.now.plan in
    let grammar = grammar_of plan.grammar in
    let s = g.St.Store.state c.args.store.now in
    let q = c.requires.body in
    let w = q.4 in
    let callee = c.visit_at-callee.result.now in (
      grammar,
      plan.parts.sorts,
      c.args.mark.body,
      w.run,
      w.symbol,
      w.visit_there,
      q.5.outcome,
      takes_from grammar plan.parts.sorts s c.args.frame.now q.0 q.2 c.args.mark q.3 w c.args.given.0 q.5 callee (c.visit_at-callee.ensures.callee s c.args.frame.now q.0 q.2 q.3 w),
    )

pub overflow_add-result : goal.overflow_add-result
overflow_add-result g c = let place = c.visit_at-callee.ensures.place in omega (arith, place)

pub returns-clause-runs : goal.returns-clause-runs
returns-clause-runs g c fuel fits call d w gives =
    let functions = c.args.functions.now in
    let plan = functions.plan in
    let grammar = grammar_of plan.grammar in
    let s = g.St.Store.state c.args.store.now in
    let t = g.St.Store.state c.take_result-height.new.store in
    let mark = c.args.mark in
    let callee = c.visit_at-callee.result.now in
    let from = takes_from grammar plan.parts.sorts s c.args.frame.now fuel call mark d w c.args.given.0 gives callee (c.visit_at-callee.ensures.callee s c.args.frame.now fuel call d w) in
    let takes = c.take_result-height.ensures.takes grammar plan.parts.sorts mark.body w.run w.symbol w.visit_there gives.outcome from in
    let highest : c.max.result ≡ max mark.height c.take_result-height.result = search rules in
    let next : Mark = record { call = mark.call; body = mark.body; at = mark.at + 1; height = c.max.result } in (
      goes_on grammar plan.parts.sorts s c.args.frame.now fuel call mark d w c.args.given.0 gives t c.take_result-height.new.frame c.take_result-height.result next c.take_result-height.ensures.reads.stays.lasts c.take_result-height.ensures.reads.memo fits takes
          (ap (λ n. record { call = mark.call; body = mark.body; at = mark.at + 1; height = n }) highest),
      left_falls grammar plan.parts.sorts s c.args.frame.now fuel call mark d w functions.productions next functions.made refl refl,
    )
