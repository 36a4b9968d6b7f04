use Rattle.std.proofs.Common.{ap, sym, ◌∙◌, arith, subst}
use Rattle.lrc_rule.specs.Layout.{memo_at}
use Rattle.lrc_rule.specs.Memo.{memo_load}
use Rattle.lrc_rule.specs.Views.{View}
use Rattle.lrc_rule.specs.Steps.{Memoes}
use Rattle.lrc_rule.proofs.Keeping.{memo_loads}
use Rattle.lrc_table.specs.Passes.{PassView}
use Rattle.lrc_table.proofs.Opened.{same_id, same_layout, IsPass-memoes, IsMemoWord-as}
use Rattle.lrc_table.proofs.table.Pass.load_word.Goals as goal

pub load-requires : goal.load-requires
load-requires g c =
    let s = c.self in
    let e = same_layout _ _ _ _ s.view_is c.table.view_is c.requires.of in
    let at = c.memo_word.ensures.index ∙ ap (λ l. memo_at l c.args.place) (sym e) in
    let m = ap (λ t. t.meaning) c.table.view_is in (
      same_id _ _ _ _ s.view_is c.table.view_is c.requires.of,
      (let w = c.memo_word.ensures.within in omega (arith, w, c.table.invariant.1)),
      λ st r h there less.
          let a = memo_loads _ _ _ _ _ c.args.place s.invariant.current.live at (let p = c.requires.place in let memo = ap (λ l. l.memo) e in let memo_too = ap (λ t. t.layout.memo) c.table.view_is in omega (arith, p, memo, memo_too)) st r h there less in
          (a.0, a.1, a.2, a.3, (a.4.0, IsMemoWord-as _ g.W.Sense.allows _ g.W.Sense.reach _ _ _ (λ call outcome may. c.requires.allows call outcome (subst (λ meaning. g.M.Meaning.allows meaning call outcome) m may)) (c.requires.reach ∙ ap g.M.Meaning.reach (sym m)) a.4.1, a.4.2)),
    )

pub invariant_of-self : goal.invariant_of-self
invariant_of-self g c =
    let s = c.self in
    let e = same_layout _ _ _ _ s.view_is c.table.view_is c.requires.of in
    let at = c.memo_word.ensures.index ∙ ap (λ l. memo_at l c.args.place) (sym e) in
    IsPass-memoes s.inside.seat.me.0 c.load.new.seat.me.0 _ _ _ _ _ _ s.invariant (c.load.ensures.2.2 c.args.place at) c.load.ensures.2.0

pub returns-clause-step : goal.returns-clause-step
returns-clause-step g c =
    let s = c.self in
    let e = same_layout _ _ _ _ s.view_is c.table.view_is c.requires.of in
    let at = c.memo_word.ensures.index ∙ ap (λ l. memo_at l c.args.place) (sym e) in
    subst (λ (v : View). Memoes v c.load.new.seat.me.0 (memo_load c.args.place c.load.result)) (ap (λ (p : PassView). p.view) s.view_is) (c.load.ensures.2.2 c.args.place at)
