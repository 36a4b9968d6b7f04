use Rattle.std.proofs.Common.{◌≡◌, ◌++◌, reverse, length}
use Rattle.lrc_augment.proofs.filled.reversed.Given as goal

abbrev pub invariant-loop-prod : goal.invariant-loop-prod
invariant-loop-prod l = reverse l.initial.prods ≡ l.done ++ reverse l.prods

abbrev pub decreases-loop-prod : goal.decreases-loop-prod
decreases-loop-prod l = length l.prods
