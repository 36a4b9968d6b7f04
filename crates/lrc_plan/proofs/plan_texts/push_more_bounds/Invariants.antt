use Rattle.std.proofs.Common.{◌≡◌, ◌++◌, take}
use Rattle.lrc_plan.specs.Text.{more_bounds}
use Rattle.lrc_plan.proofs.plan_texts.push_more_bounds.Given as goal

abbrev pub invariant-items : goal.invariant-items
invariant-items l = l.text.items ≡ l.initial.text.items ++ more_bounds l.names.occurrences l.names.symbols (take l.item-index l.items)
