use Rattle.std.proofs.Common.{◌≡◌, ℕ, ◌<◌, false, map, All, get_or}
use Rattle.lrc_plan.specs.declared.waiting.Waiting.{Waiting}
use Rattle.lrc_plan.specs.Running.{unchecked, IsChecked, is_ready_in}
use Rattle.lrc_plan.proofs.greedy.first_ready.Given as goal

abbrev pub invariant-actions : goal.invariant-actions
invariant-actions l = record {
  same : map unchecked l.left.items ≡ map unchecked l.initial.left.items;
  checked : All (IsChecked l.available) l.left.items;
  earlier : (k : ℕ) (d : Waiting) → k < l.index → is_ready_in l.available (get_or l.left.items k d) ≡ false;
}
