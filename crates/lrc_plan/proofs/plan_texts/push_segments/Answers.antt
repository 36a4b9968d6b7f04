use Rattle.std.proofs.Common.{◌+◌, ◌++◌, [], List, get_or, ap, ◌∙◌}
use Rattle.lrc_plan_meaning.specs.declared.Action.{Action}
use Rattle.std.proofs.lemmas.List.{get_or_default}
use Rattle.lrc_plan.specs.Text.{segment_line}
use Rattle.lrc_plan.proofs.PairLemmas.{flat_range_more}
use Rattle.lrc_plan.proofs.plan_texts.push_segments.Goals as goal

pub segments-preserved : goal.segments-preserved
segments-preserved c =
    flat_range_more (λ k. segment_line c.args.names.now.occurrences c.args.names.now.symbols (k + 1) (get_or c.args.segments.now k [])) c.args.text.now.items c.segments.text.items c.push_segment.new.text.items c.segments.earlier c.segments.invariant
    (c.in_ok-push_segment.ensures
    ∙ ap (λ (xs : List Action). c.segments.text.items ++ segment_line c.args.names.now.occurrences c.args.names.now.symbols (c.segments.earlier + 1) xs)
    (c.as_slice.ensures ∙ c.index-segments-earlier.is ∙ get_or_default c.args.segments.now c.segments.earlier c.index-segments-earlier.result [] c.segments-test.true))
