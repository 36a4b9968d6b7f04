use Rattle.std.proofs.Common.{◌+◌, ◌≤◌, length, ap, sym, arith, subst}
use Rattle.lrc_rule.proofs.Keeping.{splits}
use Rattle.lrc_rule.specs.Views.{View}
use Rattle.lrc_table.specs.Passes.{PassView}
use Rattle.lrc_rule.proofs.Places.{some_word}
use Rattle.lrc_table.proofs.Opened.{same_id}
use Rattle.lrc_table.proofs.table.Pass.cut.Goals as goal

pub split_seat-seat-requires : goal.split_seat-seat-requires
split_seat-seat-requires g c =
    let s = c.self in let i = s.invariant in
    let v = ap (λ (p : PassView). p.view) s.view_is in
    let unused = subst (λ (w : View). c.args.quota + length w.owned.made ≤ w.owned.quota) (sym v) c.requires.unused in (
      same_id _ _ _ _ s.view_is c.table.view_is c.requires.of,
      some_word _ _ c.table.invariant.1 c.table.invariant.3,
      splits _ _ _ g.A.Amount.amount i.current.live (omega (arith, c.requires.amount, unused)),
    )
