use Rattle.std.proofs.Common.{◌+◌, ◌<◌, ◌≤◌, length, ap, sym, ◌∙◌, arith, subst}
use Rattle.lrc_rule.proofs.Keeping.{stores}
use Rattle.lrc_rule.specs.Layout.{part_at}
use Rattle.lrc_rule.specs.Views.{View}
use Rattle.lrc_rule.specs.Steps.{Stores}
use Rattle.lrc_table.specs.Passes.{PassView}
use Rattle.lrc_table.proofs.Opened.{same_id, same_layout, IsPass-follows}
use Rattle.lrc_table.proofs.table.Pass.draft_part.Goals as goal

pub part-word-requires : goal.part-word-requires
part-word-requires g c =
    let s = c.self in let i = s.invariant in
    let e = same_layout _ _ _ _ s.view_is c.table.view_is c.requires.of in
    let room = subst (λ (v : View). length v.owned.made < v.owned.quota) (sym (ap (λ (p : PassView). p.view) s.view_is)) c.requires.room in
    let rows = ap (λ l. l.rows) e in
    record { layout = c.table.invariant.3; row = omega (arith, room, rows, i.current.range.within, i.first_is, i.quota_is, i.count_is); part = c.requires.part }

pub store-requires : goal.store-requires
store-requires g c =
    let s = c.self in let i = s.invariant in
    let e = same_layout _ _ _ _ s.view_is c.table.view_is c.requires.of in
    let v = ap (λ (p : PassView). p.view) s.view_is in (
      same_id _ _ _ _ s.view_is c.table.view_is c.requires.of,
      (let w = c.part-word.ensures.within in omega (arith, w, c.table.invariant.1)),
      stores _ _ _ _ _ c.args.part c.args.value i.current
          (c.part-word.ensures.index ∙ (λ j. part_at (sym e j) ((sym i.first_is j) + (sym i.count_is j)) c.args.part))
          c.requires.part (subst (λ (w : View). c.args.part ≤ length w.learned.draft) (sym v) c.requires.behind) (subst (λ (w : View). length w.owned.made < w.owned.quota) (sym v) c.requires.room),
    )

pub invariant_of-self : goal.invariant_of-self
invariant_of-self g c =
    let s = c.self in let i = s.invariant in
    let e = same_layout _ _ _ _ s.view_is c.table.view_is c.requires.of in
    let then = c.store.ensures.2.1 c.args.part c.requires.part (c.part-word.ensures.index ∙ (λ j. part_at (sym e j) ((sym i.first_is j) + (sym i.count_is j)) c.args.part)) in
    IsPass-follows s.inside.seat.me.0 c.store.new.seat.me.0 _ _ _ _ _ i then.follows then.made c.store.ensures.2.0

pub returns-clause-stores : goal.returns-clause-stores
returns-clause-stores g c =
    let s = c.self in let i = s.invariant in
    let e = same_layout _ _ _ _ s.view_is c.table.view_is c.requires.of in
    let then = c.store.ensures.2.1 c.args.part c.requires.part (c.part-word.ensures.index ∙ (λ j. part_at (sym e j) ((sym i.first_is j) + (sym i.count_is j)) c.args.part)) in
    subst (λ (v : View). Stores v c.store.new.seat.me.0 c.args.part c.args.value) (ap (λ (p : PassView). p.view) s.view_is) then
