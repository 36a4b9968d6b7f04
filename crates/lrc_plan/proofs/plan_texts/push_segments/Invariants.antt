use Rattle.std.proofs.Common.{◌≡◌, ◌+◌, ◌++◌, []}
use Rattle.std.specs.Prelude.{flat_map, slice_index_or}
use Rattle.std.specs.List.{range_with_len}
use Rattle.lrc_plan.specs.Text.{segment_line}
use Rattle.lrc_plan.proofs.plan_texts.push_segments.Given as goal

abbrev pub invariant-segments : goal.invariant-segments
invariant-segments l = l.text.items ≡ l.initial.text.items ++ flat_map (λ k. segment_line l.names.occurrences l.names.symbols (k + 1) (slice_index_or l.segments k [])) (range_with_len 0 l.earlier)
