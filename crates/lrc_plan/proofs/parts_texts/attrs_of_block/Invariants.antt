use Rattle.std.proofs.Common.{◌≡◌, ◌&&◌, ◌==◌}
use Rattle.std.specs.Prelude.{filter}
use Rattle.std.specs.List.{range_with_len}
use Rattle.lrc_plan_meaning.specs.Items.{is_of, visit_of}
use Rattle.lrc_plan.proofs.parts_texts.attrs_of_block.Given as goal

abbrev pub invariant-attributes : goal.invariant-attributes
invariant-attributes l = l.found ≡ filter (λ x. is_of l.attrs l.block.inherited x && (visit_of l.parts l.block.sort x == l.block.visit)) (range_with_len 0 l.attr)
