use Rattle.std.proofs.Common.{ap, sym, ◌∙◌, arith, subst}
use Rattle.lrc_rule.specs.Layout.{memo_at}
use Rattle.lrc_rule.specs.Memo.{memo_clear}
use Rattle.lrc_rule.specs.Views.{View}
use Rattle.lrc_rule.specs.Steps.{Memoes}
use Rattle.lrc_rule.proofs.Keeping.{memo_clears}
use Rattle.lrc_table.specs.Passes.{PassView}
use Rattle.lrc_table.proofs.Opened.{same_id, same_layout, IsPass-memoes}
use Rattle.lrc_table.proofs.table.Pass.clear_word.Goals as goal

pub store-requires : goal.store-requires
store-requires g c =
    let s = c.self in
    let e = same_layout _ _ _ _ s.view_is c.table.view_is c.requires.of in
    let at = c.memo_word.ensures.index ∙ ap (λ l. memo_at l c.args.place) (sym e) in (
      same_id _ _ _ _ s.view_is c.table.view_is c.requires.of,
      (let w = c.memo_word.ensures.within in omega (arith, w, c.table.invariant.1)),
      memo_clears _ _ _ _ _ c.args.place s.invariant.current at (let p = c.requires.place in let memo = ap (λ l. l.memo) e in let memo_too = ap (λ t. t.layout.memo) c.table.view_is in omega (arith, p, memo, memo_too)),
    )

pub invariant_of-self : goal.invariant_of-self
invariant_of-self g c =
    let s = c.self in
    let e = same_layout _ _ _ _ s.view_is c.table.view_is c.requires.of in
    let at = c.memo_word.ensures.index ∙ ap (λ l. memo_at l c.args.place) (sym e) in
    IsPass-memoes s.inside.seat.me.0 c.store.new.seat.me.0 _ _ _ _ _ _ s.invariant (c.store.ensures.2.1 c.args.place at) c.store.ensures.2.0

pub returns-clause-step : goal.returns-clause-step
returns-clause-step g c =
    let s = c.self in
    let e = same_layout _ _ _ _ s.view_is c.table.view_is c.requires.of in
    let at = c.memo_word.ensures.index ∙ ap (λ l. memo_at l c.args.place) (sym e) in
    subst (λ (v : View). Memoes v c.store.new.seat.me.0 (memo_clear c.args.place)) (ap (λ (p : PassView). p.view) s.view_is) (c.store.ensures.2.1 c.args.place at)
