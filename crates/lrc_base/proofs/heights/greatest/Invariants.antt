use Rattle.std.proofs.Common.{◌≡◌, drop, max}
use Rattle.lrc_base.specs.Terms.{greatest}
use Rattle.lrc_base.proofs.heights.greatest.Given as goal

-- the greatest so far, and those that are left
abbrev pub invariant-loop-height : goal.invariant-loop-height
invariant-loop-height l = max l.found (greatest (drop l.height-index l.heights)) ≡ greatest l.heights
