use Rattle.std.proofs.Common.{◌≡◌, ◌+◌, ◌*◌, length}
use Rattle.lrc_parse.specs.Sums.{reads_rest, reads_sum}
use Rattle.lrc_parse.proofs.sum_reader.+sum.Given as goal

abbrev pub decreases-read_atom : goal.decreases-read_atom
decreases-read_atom l = 3 * l.depth + 1

abbrev pub decreases-read_brackets : goal.decreases-read_brackets
decreases-read_brackets l = 3 * l.depth

abbrev pub decreases-read_sum : goal.decreases-read_sum
decreases-read_sum l = 3 * l.depth + 2

abbrev pub invariant-read_sum-loop-behind : goal.invariant-read_sum-loop-behind
invariant-read_sum-loop-behind l = reads_rest l.depth l.total l.rest ≡ reads_sum l.depth l.fn.signs

abbrev pub decreases-read_sum-loop-behind : goal.decreases-read_sum-loop-behind
decreases-read_sum-loop-behind l = length l.rest
