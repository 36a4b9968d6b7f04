use Rattle.std.proofs.Common.{◌∙◌, ap, List, get_or}
use Rattle.lrc_plan_meaning.specs.declared.Sequences.{Sequences}
use Rattle.lrc_plan.proofs.ReadLemmas.{production_read}
use Rattle.lrc_plan.proofs.sequenced.Plan.sequences.Goals as goal

pub returns : goal.returns
returns c =
    let plan = c.args.self.now in
    let result = c.index-as_slice-production.result in
    production_read plan.grammar.sorts plan.parts.sorts plan.grammar.prods plan.productions c.args.production result c.requires plan.made
    (c.index-as_slice-production.is ∙ ap (λ (xs : List Sequences). get_or xs c.args.production result) c.as_slice.ensures)
