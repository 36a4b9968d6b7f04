use Rattle.std.proofs.Common.{◌≡◌, ◌++◌, take}
use Rattle.lrc_plan.specs.Text.{more_actions}
use Rattle.lrc_plan.proofs.plan_texts.push_more_actions.Given as goal

abbrev pub invariant-actions : goal.invariant-actions
invariant-actions l = l.text.items ≡ l.initial.text.items ++ more_actions l.names.occurrences l.names.symbols (take l.action-index l.actions)
