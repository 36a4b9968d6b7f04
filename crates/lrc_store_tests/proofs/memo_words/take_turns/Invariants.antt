use Rattle.std.proofs.Common.{◌≡◌}
use Rattle.lrc_store_tests.proofs.memo_words.take_turns.Given as goal

abbrev pub invariant-loop-value : goal.invariant-loop-value
invariant-loop-value l = l.store.table ≡ l.table
