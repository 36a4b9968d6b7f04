use Rattle.std.proofs.Common.{ℕ, ◌≤◌, take, Contains}
use Rattle.lrc_bodies.proofs.frames.greatest.Given as goal

abbrev pub invariant-counts : goal.invariant-counts
invariant-counts l = (n : ℕ) → Contains (take l.count-index l.counts) n → n ≤ l.most
