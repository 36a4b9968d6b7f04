use Rattle.std.proofs.Common.{◌≡◌, ℕ, length, slice_get, Some}
use Rattle.lrc_grammar.specs.Grammar.{grammar_of}
use Rattle.lrc_order_meaning.specs.declared.Partition.{Partition}
use Rattle.lrc_order_meaning.specs.Ordered.{IsPartition}
use Rattle.lrc_ordered.proofs.partitions.partition_sorts.Given as goal

abbrev pub invariant-loop-sort : goal.invariant-loop-sort
invariant-loop-sort l = record {
  count : length l.sorts ≡ l.sort;
  each : (s : ℕ) (found : Partition) → slice_get l.sorts s ≡ Some found → IsPartition (grammar_of l.grammar) l.given s found;
}
