use Rattle.std.proofs.Common.{take}
use Rattle.lrc_ordered.specs.Setup.{IsAmong}
use Rattle.lrc_ordered.proofs.setup.is_among.Given as goal

abbrev pub invariant-loop-place : goal.invariant-loop-place
invariant-loop-place l = ¬ IsAmong (take l.place-index l.places) l.sort
