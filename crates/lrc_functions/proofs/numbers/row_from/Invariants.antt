use Rattle.std.proofs.Common.{◌≡◌, ◌+◌, ◌++◌}
use Rattle.lrc_functions.specs.Numbers.{row_from, binding_count}
use Rattle.lrc_functions.proofs.numbers.row_from.Given as goal

abbrev pub invariant-visits : goal.invariant-visits
invariant-visits l = record {
  row : l.row ++ row_from l.next l.later ≡ row_from l.start l.visits;
  end : l.next + binding_count l.later ≡ l.start + binding_count l.visits;
}
