use Rattle.std.proofs.Common.{◌≡◌, ◌<◌, ◌≤◌, ℕ, length, [], get_or}
use Rattle.lrc_ordered.specs.Tables.{Closed, HandedAmong, table_at}
use Rattle.lrc_ordered.proofs.spread.spread.Given as goal

abbrev pub invariant-productions : goal.invariant-productions
invariant-productions l = record {
  number : length l.relations ≡ length l.initial.relations;
  done : (i : ℕ) → i < l.production → Closed (table_at l.initial.relations i) (table_at l.relations i) (HandedAmong l.sorts (get_or l.places i []));
  left : (i : ℕ) → l.production ≤ i → table_at l.relations i ≡ table_at l.initial.relations i;
}
