use Rattle.std.proofs.Common.{◌≡◌, ◌+◌, ◌++◌, []}
use Rattle.std.specs.Prelude.{flat_map, slice_index_or}
use Rattle.std.specs.List.{range_with_len}
use Rattle.lrc_plan.specs.Text.{later_lines}
use Rattle.lrc_plan.proofs.plan_texts.push_bindings.Given as goal

abbrev pub invariant-visits : goal.invariant-visits
invariant-visits l = l.text.items ≡ l.initial.text.items ++ flat_map (λ k. later_lines l.names.occurrences l.names.symbols (k + 1) (slice_index_or l.bindings k [])) (range_with_len 0 l.earlier)
