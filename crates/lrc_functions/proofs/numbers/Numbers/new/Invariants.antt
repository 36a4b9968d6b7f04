use Rattle.std.proofs.Common.{◌≡◌, ◌++◌, drop}
use Rattle.lrc_functions.specs.Numbers.{rows_from, end_from}
use Rattle.lrc_functions.proofs.numbers.Numbers.new.Given as goal

abbrev pub invariant-symbols : goal.invariant-symbols
invariant-symbols l = record {
  rows : l.rows ++ rows_from l.next (drop l.count-index l.visits) ≡ rows_from l.occurrences l.visits;
  end : end_from l.next (drop l.count-index l.visits) ≡ end_from l.occurrences l.visits;
}
