use Rattle.std.proofs.Common.{ℕ, ◌<◌, ◌≢◌, slice_index}
use Rattle.lrc_ordered.proofs.visits.is_left.Given as goal

abbrev pub invariant-attributes : goal.invariant-attributes
invariant-attributes l = (a : ℕ) → a < l.attr → slice_index l.sets a ≢ 0
