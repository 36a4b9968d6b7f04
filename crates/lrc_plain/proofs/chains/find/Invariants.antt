use Rattle.std.proofs.Common.{◌≡◌, ℕ, ◌+◌, ◌<◌, ◌≤◌, length}
use Rattle.lrc_plain.specs.Chains.{bucket_at, IsAt}
use Rattle.lrc_plain.specs.Home.{home_of}
use Rattle.lrc_plain.proofs.chains.find.Given as goal

abbrev pub invariant-loop-place : goal.invariant-loop-place
invariant-loop-place l = record {
  within : l.place ≤ length l.rows;
  alike : (j : ℕ) → l.place ≡ j + 1 → bucket_at l.rows (length l.heads) j ≡ home_of l.cell (length l.heads);
  covers : (i : ℕ) → IsAt l.rows l.cell i → i < l.place;
}

abbrev pub decreases-loop-place : goal.decreases-loop-place
decreases-loop-place l = l.place
