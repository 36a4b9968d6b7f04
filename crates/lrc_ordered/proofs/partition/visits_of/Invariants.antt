use Rattle.std.proofs.Common.{◌≡◌, ◌+◌, ◌-◌, ◌/◌, map, take}
use Rattle.lrc_ordered.proofs.partition.visits_of.Given as goal

abbrev pub invariant-loop-set : goal.invariant-loop-set
invariant-loop-set l = l.visit_of ≡ map (λ set. l.visits + 1 - (set + 1) / 2) (take l.set-index l.sets)
