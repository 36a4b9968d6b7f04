use Rattle.std.proofs.Common.{◌+◌, ◌++◌, [], List, get_or, ap, ◌∙◌}
use Rattle.lrc_plan_meaning.specs.declared.Bound.{Bound}
use Rattle.std.proofs.lemmas.List.{get_or_default}
use Rattle.lrc_plan.specs.Text.{binding_line}
use Rattle.lrc_plan.proofs.PairLemmas.{flat_range_more}
use Rattle.lrc_plan.proofs.plan_texts.push_later.Goals as goal

pub visits-preserved : goal.visits-preserved
visits-preserved c =
    flat_range_more (λ k. binding_line c.args.names.now.occurrences c.args.names.now.symbols c.args.from (c.args.from + k + 1) (get_or c.args.later.now k [])) c.args.text.now.items c.visits.text.items c.push_binding.new.text.items c.visits.number c.visits.invariant
    (c.in_ok-push_binding.ensures
    ∙ ap (λ (xs : List Bound). c.visits.text.items ++ binding_line c.args.names.now.occurrences c.args.names.now.symbols c.args.from (c.args.from + c.visits.number + 1) xs)
    (c.as_slice-items.ensures ∙ c.index-later-number.is ∙ get_or_default c.args.later.now c.visits.number c.index-later-number.result [] c.visits-test.true))
