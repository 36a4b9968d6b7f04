use Rattle.std.proofs.Common.{◌+◌, ◌++◌, [], List, get_or, ap, ◌∙◌}
use Rattle.lrc_plan_meaning.specs.declared.Bound.{Bound}
use Rattle.std.proofs.lemmas.List.{get_or_default}
use Rattle.lrc_plan.specs.Text.{later_lines}
use Rattle.lrc_plan.proofs.PairLemmas.{flat_range_more}
use Rattle.lrc_plan.proofs.plan_texts.push_bindings.Goals as goal

pub visits-preserved : goal.visits-preserved
visits-preserved c =
    flat_range_more (λ k. later_lines c.args.names.now.occurrences c.args.names.now.symbols (k + 1) (get_or c.args.bindings.now k [])) c.args.text.now.items c.visits.text.items c.push_later.new.text.items c.visits.earlier c.visits.invariant
    (c.in_ok-push_later.ensures
    ∙ ap (λ (xs : List (List Bound)). c.visits.text.items ++ later_lines c.args.names.now.occurrences c.args.names.now.symbols (c.visits.earlier + 1) xs)
    (c.as_slice.ensures ∙ c.index-bindings-earlier.is ∙ get_or_default c.args.bindings.now c.visits.earlier c.index-bindings-earlier.result [] c.visits-test.true))
