use Rattle.std.proofs.Common.{◌≡◌}
use Rattle.std.specs.Prelude.{flat_map}
use Rattle.std.specs.List.{range_with_len}
use Rattle.lrc_plan.specs.Text.{sort_text}
use Rattle.lrc_plan.proofs.parts_texts.parts_text.Given as goal

abbrev pub invariant-sorts : goal.invariant-sorts
invariant-sorts l = l.text.items ≡ flat_map (sort_text l.plan.grammar.sorts l.plan.parts.sorts) (range_with_len 0 l.sort)
