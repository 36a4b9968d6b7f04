use Rattle.std.proofs.Common.{◌≡◌, map, take}
use Rattle.lrc_threads.specs.Finals.{final_handle}
use Rattle.lrc_threads.proofs.finals.finals_of.Given as goal

-- the finals so far are there
abbrev pub invariant-loop-last : goal.invariant-loop-last
invariant-loop-last l = l.finals ≡ map (final_handle l.lasts) (take l.last-index l.lasts)
