use Rattle.std.proofs.Common.{Some, sym, ap, ◌∙◌, rules, w64, SFits, to_z, of_z}
use Rattle.std.proofs.lemmas.Int.{to_z-of_z}
use Rattle.lrc_eval.proofs.ValueLemmas.{numbers-found}
use Rattle.lrc_eval.proofs.operators.operated.Goals as goal

pub returns-in_ok-number_of-in-Add-2 : goal.returns-in_ok-number_of-in-Add-2
returns-in_ok-number_of-in-Add-2 g c x y one other =
    let s = g.St.Store.state c.args.store.now in
    let m = c.in_ok-number_of-in-Add.field-0 in
    let n = c.in_ok-number_of-in-Add-2.field-0 in
    let m_fits : SFits w64 m = search rules in
    let n_fits : SFits w64 n = search rules in
    numbers-found s c.args.op (to_z w64 (of_z w64 m)) (to_z w64 (of_z w64 n)) x y (Some c.calculated.result)
    (ap Some (to_z-of_z w64 m m_fits) ∙ sym c.in_ok-number_of-in-Add.was ∙ c.number_of.ensures s x one.means)
    (ap Some (to_z-of_z w64 n n_fits) ∙ sym c.in_ok-number_of-in-Add-2.was ∙ c.number_of-in-Add.ensures s y other.means)
    (c.calculated.ensures s)
