use Rattle.std.proofs.Common.{◌≡◌, List, [], Bool, false, get_or, sym, ap, ◌∙◌, rules}
use Rattle.std.proofs.lemmas.Option.{get_or_from_slice_get}
use Rattle.lrc_plan.proofs.AtLemmas.{past_default}
use Rattle.lrc_plan.proofs.visit_table.VisitTable.has.Goals as goal

pub returns-in-None-at : goal.returns-in-None-at
returns-in-None-at c =
    let row : get_or c.args.self.now c.args.from [] ≡ c.in-Some.row.now =
    get_or_from_slice_get c.args.self.now c.args.from c.in-Some.row.now [] (search rules) in
    sym (ap (λ (flags : List Bool). get_or flags c.args.to false) (row ∙ sym c.as_slice.ensures) ∙ past_default c.as_slice.result.now c.args.to false (search rules))
