use Rattle.std.proofs.Common.{◌≡◌, ◌-◌, length}
use Rattle.lrc_plan.specs.Running.{unchecked, IsChecked}
use Rattle.lrc_plan.proofs.greedy.is_ready.Given as goal

abbrev pub invariant-awaits : goal.invariant-awaits
invariant-awaits l = record {
  same : unchecked l.waiting ≡ unchecked l.initial.waiting;
  checked : IsChecked l.available l.waiting;
}

abbrev pub decreases-awaits : goal.decreases-awaits
decreases-awaits l = length l.waiting.awaits - l.waiting.checked
