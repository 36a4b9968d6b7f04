use Rattle.std.proofs.Common.{◌≡◌, ◌+◌}
use Rattle.std.specs.Prelude.{drop}
use Rattle.lrc_threads.specs.Finals.{first_handle}
use Rattle.lrc_threads.proofs.finals.first_with.Given as goal

-- none of the handles so far is the sought one
abbrev pub invariant-loop-last : goal.invariant-loop-last
invariant-loop-last l = (l.number ≡ l.last-index + 1) × (first_handle l.sought 1 l.lasts ≡ first_handle l.sought (l.last-index + 1) (drop l.last-index l.lasts))
