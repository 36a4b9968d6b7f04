use Rattle.std.proofs.Common.{◌≡◌, drop}
use Rattle.lrc_job.specs.Found.{first_unlike_kind}
use Rattle.lrc_job.proofs.kinds.first_unlike.Given as goal

abbrev pub invariant-loop-i : goal.invariant-loop-i
invariant-loop-i l =
    first_unlike_kind 0 l.kinds l.kids ≡ first_unlike_kind l.i (drop l.i l.kinds) (drop l.i l.kids)
