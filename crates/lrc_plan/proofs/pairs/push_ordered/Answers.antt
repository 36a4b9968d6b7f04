use Rattle.lrc_plan.proofs.PairLemmas.{flat_range_more}
use Rattle.lrc_plan.proofs.pairs.push_ordered.Goals as goal

pub attributes-preserved : goal.attributes-preserved
attributes-preserved c =
    let place = c.args.place in
    let count = c.attrs_of_sort.result.now in
    flat_range_more _ c.args.pairs.now c.attributes.pairs c.push_after.new.pairs c.attributes.first c.attributes.invariant c.in_ok-push_after.ensures
