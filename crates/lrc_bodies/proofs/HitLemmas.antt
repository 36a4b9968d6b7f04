-- A result that is remembered with its height serves each fuel from the height on, and tells that there is none below; and what
-- has no result with any fuel.
use Rattle.std.proofs.Common.{◌≡◌, ℕ, zero, suc, ◌<◌, ◌≤◌, List, Option, Some, None, refl, sym}
use Rattle.lrc_meaning.specs.Grammar.{Grammar}
use Rattle.lrc_order_meaning.specs.declared.Partition.{Partition}
use Rattle.lrc_visit_meaning.specs.Values.{Call, Result}
use Rattle.lrc_visit_meaning.specs.Visits.{one_visit, plain_visit}
use Rattle.lrc_visit_meaning.specs.Demand.{reach}
use Rattle.lrc_laws.proofs.FuelLemmas.{visit_same, none_below}
use Rattle.lrc_laws.proofs.SameReachLemmas.{reach_same}

module _ (g : Grammar) (parts : List Partition) (c : Call) (r : Result) (is : plain_visit g parts r.height c ≡ Some r) (fuel : ℕ) where
  pub hit : r.height ≤ fuel → plain_visit g parts fuel c ≡ Some r
  hit low = visit_same g parts r.height fuel c r is low

  pub hit_reach : r.height ≤ fuel → reach g parts fuel c ≡ reach g parts r.height c
  hit_reach low = sym (reach_same g parts r.height fuel c r is low)

  pub too_high : fuel < r.height → plain_visit g parts fuel c ≡ None
  too_high less = none_below g parts r.height fuel c r is less

module _ (g : Grammar) (parts : List Partition) (c : Call) where
  pub no_fuel : plain_visit g parts 0 c ≡ None
  unfolding plain_visit
  no_fuel = refl

  -- a call that no visits of its node's symbols help has no result at all
  pub no_body : ((visit : Call → Option Result) → one_visit g parts visit c ≡ None) → (fuel : ℕ) → plain_visit g parts fuel c ≡ None
  unfolding plain_visit
  no_body none zero = refl
  no_body none (suc fuel) = none (plain_visit g parts fuel)
