use Rattle.std.proofs.Common.{take}
use Rattle.lrc_ordered.specs.Setup.{IsIn}
use Rattle.lrc_ordered.proofs.setup.is_in.Given as goal

abbrev pub invariant-loop-list : goal.invariant-loop-list
invariant-loop-list l = ¬ IsIn (take l.list-index l.places) l.sort
