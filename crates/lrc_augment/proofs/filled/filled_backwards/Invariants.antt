use Rattle.std.proofs.Common.{◌≡◌, ◌++◌, map, reverse, length}
use Rattle.lrc_augment.specs.Filled.{filled_production}
use Rattle.lrc_augment.proofs.filled.filled_backwards.Given as goal

-- those that are left, filled, and then those that are done, turned round
abbrev pub invariant-loop-prod : goal.invariant-loop-prod
invariant-loop-prod l = map (filled_production l.sorts) l.initial.prods ≡ map (filled_production l.sorts) l.prods ++ reverse l.done

abbrev pub decreases-loop-prod : goal.decreases-loop-prod
decreases-loop-prod l = length l.prods
