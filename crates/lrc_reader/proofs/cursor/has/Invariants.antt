use Rattle.std.proofs.Common.{◌≡◌, length}
use Rattle.lrc_parse.specs.Kinds.{has}
use Rattle.lrc_reader.proofs.cursor.has.Given as goal

-- what the rest of the set says of the kind, the whole says
abbrev pub invariant-loop-rest : goal.invariant-loop-rest
invariant-loop-rest l = has l.rest l.wanted ≡ has l.kinds l.wanted

abbrev pub decreases-loop-rest : goal.decreases-loop-rest
decreases-loop-rest l = length l.rest
