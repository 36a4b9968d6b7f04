use Rattle.std.proofs.Common.{[]}
use Rattle.lrc_plan.specs.Text.{sort_text}
use Rattle.lrc_plan.proofs.PairLemmas.{flat_range_more}
use Rattle.lrc_plan.proofs.parts_texts.parts_text.Goals as goal

pub sorts-preserved : goal.sorts-preserved
sorts-preserved c =
    let plan = c.args.plan.now in
    flat_range_more (sort_text plan.grammar.sorts plan.parts.sorts) [] c.sorts.text.items c.push_sort.new.text.items c.sorts.sort c.sorts.invariant c.in_ok-push_sort.ensures
