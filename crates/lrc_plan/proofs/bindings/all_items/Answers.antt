use Rattle.std.proofs.Common.{map}
use Rattle.std.specs.Prelude.{slice_index}
use Rattle.std.specs.List.{range_with_len}
use Rattle.lrc_plan_meaning.specs.declared.Bound.TheVariants as b
use Rattle.lrc_plan_meaning.specs.Bindings.{bindings_at}
use Rattle.lrc_plan.proofs.PairLemmas.{flat_range_more}
use Rattle.lrc_plan.proofs.bindings.all_items.Goals as goal

pub symbols-preserved : goal.symbols-preserved
symbols-preserved c =
    flat_range_more (λ s. bindings_at s (slice_index c.args.visits.now s)) (map b.Value (range_with_len 0 c.args.occurrences)) c.symbols.items c.push_bindings.new.items c.symbols.symbol
    c.symbols.invariant c.in_ok-push_bindings.ensures
