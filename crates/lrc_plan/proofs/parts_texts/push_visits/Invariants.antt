use Rattle.std.proofs.Common.{◌≡◌, ◌++◌}
use Rattle.std.specs.Prelude.{flat_map}
use Rattle.std.specs.List.{range_with_len}
use Rattle.lrc_plan.specs.Text.{visit_text}
use Rattle.lrc_plan.proofs.parts_texts.push_visits.Given as goal

abbrev pub invariant-visits : goal.invariant-visits
invariant-visits l = l.text.items ≡ l.initial.text.items ++ flat_map (visit_text l.plan.grammar.sorts l.plan.parts.sorts l.sort) (range_with_len 1 l.earlier)
