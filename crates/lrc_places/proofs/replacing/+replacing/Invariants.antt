use Rattle.std.proofs.Common.{◌+◌}
use Rattle.lrc_places.proofs.BuildLemmas.{work}
use Rattle.lrc_places.proofs.replacing.+replacing.Given as goal

-- each node on the path takes a step, and each child that is passed one off its number
abbrev pub decreases-replaced : goal.decreases-replaced
decreases-replaced g l = work l.steps.now

abbrev pub decreases-replaced_among : goal.decreases-replaced_among
decreases-replaced_among g l = l.step + 1 + work l.steps.now
