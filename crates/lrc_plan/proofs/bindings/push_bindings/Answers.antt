use Rattle.std.proofs.Common.{◌+◌, ◌-◌, map, arith}
use Rattle.std.specs.List.{range_with_len}
use Rattle.lrc_plan_meaning.specs.declared.Bound.TheVariants as b
use Rattle.lrc_plan.proofs.PairLemmas.{flat_row_more}
use Rattle.lrc_plan.proofs.bindings.push_bindings.Goals as goal

pub visits-preserved : goal.visits-preserved
visits-preserved c =
    flat_row_more (λ i. map (b.Kid c.args.symbol i) (range_with_len (i + 1) (c.args.visits - i))) c.args.items.now c.visits.items c.push_later_bindings.new.items
    1 c.visits.earlier (c.visits.earlier + 1) c.visits.invariant c.in_ok-push_later_bindings.ensures (omega arith)
