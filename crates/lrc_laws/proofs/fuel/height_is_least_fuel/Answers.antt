use Rattle.lrc_laws.proofs.FuelLemmas.{visit_bounded, visit_same, none_below}
use Rattle.lrc_laws.proofs.SameReachLemmas.{reach_same}
use Rattle.lrc_laws.proofs.fuel.height_is_least_fuel.Goals as goal

pub returns-clause-more : goal.returns-clause-more
returns-clause-more c g parts fuel call r e =
    (visit_bounded g parts fuel call r e, λ other le. visit_same g parts fuel other call r e le)

pub returns-clause-less : goal.returns-clause-less
returns-clause-less c g parts fuel other call r e less = none_below g parts fuel other call r e less

pub returns-clause-reach : goal.returns-clause-reach
returns-clause-reach c g parts fuel other call r e le = reach_same g parts fuel other call r e le
