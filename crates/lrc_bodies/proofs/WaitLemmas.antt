-- What holds of a call whose result is waited for: its reach is within that of the whole call, which has no result where this
-- has none.
use Rattle.std.proofs.Common.{◌≡◌, ℕ, suc, ◌<◌, ◌≤◌, List, Contains, Some, None, sym, ap, ◌∙◌, subst, arith}
use Rattle.std.proofs.lemmas.Option.{same_Some}
use Rattle.lrc_meaning.specs.Grammar.{Grammar}
use Rattle.lrc_order_meaning.specs.declared.Partition.{Partition}
use Rattle.lrc_visit_meaning.specs.Values.{Call, Result}
use Rattle.lrc_visit_meaning.specs.Visits.{plain_visit}
use Rattle.lrc_visit_meaning.specs.Demand.{Met, reach}
use Rattle.lrc_laws.proofs.FuelLemmas.{visit_bounded, visit_same}
use Rattle.lrc_bodies.specs.Points.{WaitsFor}
use Rattle.lrc_machine.specs.Waits.{Waiting, Waits, whole, over}
use Rattle.lrc_bodies.proofs.ActionLemmas.{inner_within, no_result, inner_lower}

module _ (g : Grammar) (parts : List Partition) where
  -- a body has no result where the visit that it waits for has none, and a higher one where it has; and what that visit meets
  -- it meets too
  pub record AreRight (waiting : Waiting) : Type 0 where
    pub fails : (n : ℕ) (c d : Call) → waiting n c d → plain_visit g parts n d ≡ None → plain_visit g parts (suc n) c ≡ None
    pub meets : (n : ℕ) (c d : Call) → waiting n c d → (x : Met) → Contains (reach g parts n d) x → Contains (reach g parts (suc n) c) x
    pub lower : (n : ℕ) (c d : Call) → waiting n c d → (q : Result) → plain_visit g parts (suc n) c ≡ Some q → (i : Result) × (plain_visit g parts n d ≡ Some i) × (i.height < q.height)

  -- so it is of bodies that stand at visits
  pub standing_right : (waiting : Waiting) → ((n : ℕ) (c d : Call) → waiting n c d → WaitsFor g parts n c d) → AreRight waiting
  standing_right waiting stands = record {
    fails = λ n c d w none.
        let at = stands n c d w in
        no_result g parts n c at.number at.run at.at at.height at.met at.symbol at.visit d at.stands none;
    meets = λ n c d w x h.
        let at = stands n c d w in
        inner_within g parts n c at.number at.run at.at at.height at.met at.symbol at.visit d at.stands x h;
    lower = λ n c d w q some.
        let at = stands n c d w in
        inner_lower g parts n c at.number at.run at.at at.height at.met at.symbol at.visit d at.stands q some;
  }

module _ (waiting : Waiting) (fuel : ℕ) (root : Call) where
  pub level_low : (n : ℕ) (c : Call) → Waits waiting fuel root n c → n ≤ fuel
  level_low n c (whole same is) = omega (arith, same)
  level_low n d (over {c = c} w up) = let low = level_low (suc n) c up in omega (arith, low)

  -- with all fuel it is the whole call
  pub whole_at_top : (n : ℕ) (c : Call) → n ≡ fuel → Waits waiting fuel root n c → c ≡ root
  whole_at_top n c top (whole same is) = is
  whole_at_top n d top (over {c = c} w up) = let low = level_low (suc n) c up in absurd (omega (arith, top, low))

  -- what waits above still does where all that wait from this fuel on do
  pub waits_last : (other : Waiting) (n : ℕ) (c : Call) → ((m : ℕ) (b d : Call) → n ≤ m → waiting m b d → other m b d) → Waits waiting fuel root n c → Waits other fuel root n c
  waits_last other n c lasts (whole same is) = whole same is
  waits_last other n d lasts (over {c = c} w up) =
      over (lasts n c d (omega arith) w) (waits_last other (suc n) c (λ m b e low. lasts m b e (omega (arith, low))) up)

  module _ (g : Grammar) (parts : List Partition) (right : AreRight g parts waiting) where
    pub whole_fails : (n : ℕ) (c : Call) → Waits waiting fuel root n c → plain_visit g parts n c ≡ None → plain_visit g parts fuel root ≡ None
    whole_fails n c (whole same is) none =
        subst (λ d. plain_visit g parts fuel d ≡ None) is (subst (λ m. plain_visit g parts m c ≡ None) same none)
    whole_fails n d (over {c = c} w up) none = whole_fails (suc n) c up (right.fails n c d w none)

    pub whole_meets : (n : ℕ) (c : Call) → Waits waiting fuel root n c → (x : Met) → Contains (reach g parts n c) x → Contains (reach g parts fuel root) x
    whole_meets n c (whole same is) x h =
        subst (λ d. Contains (reach g parts fuel d) x) is (subst (λ m. Contains (reach g parts m c) x) same h)
    whole_meets n d (over {c = c} w up) x h = whole_meets (suc n) c up x (right.meets n c d w x h)

    -- A call that has a result is not one that waits for it. It is enough that this result is no higher than that of each call
    -- on the way.
    waits_above : (low : ℕ) (e : Call) (q : Result) → plain_visit g parts low e ≡ Some q → (n : ℕ) (d : Call) → low ≤ n → ((i : Result) → plain_visit g parts n d ≡ Some i → q.height ≤ i.height)
        → Waits waiting fuel root n d → Waits (λ m b c. waiting m b c × ¬ (b ≡ e)) fuel root n d
    waits_above low e q some n d above high (whole same is) = whole same is
    waits_above low e q some n d above high (over {c = c} w up) =
        let most = visit_bounded g parts low e q some in
        over (
          w,
          λ same.
              let there : plain_visit g parts (suc n) c ≡ Some q = ap (plain_visit g parts (suc n)) same ∙ visit_same g parts low (suc n) e q some (omega (arith, most, above)) in
              let i = right.lower n c d w q there in
              let less = i.2 in
              let more = high i.0 i.1 in
              absurd (omega (arith, less, more)),
        )
        (waits_above low e q some (suc n) c (omega (arith, above))
        (λ j is.
        let i = right.lower n c d w j is in
        let less = i.2 in
        let more = high i.0 i.1 in
        omega (arith, less, more)) up)

    pub waits_for_others : (n : ℕ) (e : Call) (q : Result) → plain_visit g parts n e ≡ Some q → Waits waiting fuel root n e → Waits (λ m b c. waiting m b c × ¬ (b ≡ e)) fuel root n e
    waits_for_others n e q some waits =
        waits_above n e q some n e (omega arith) (λ i is. let same : q.height ≡ i.height = ap (λ (s : Result). s.height) (same_Some q i (sym some ∙ is)) in omega (arith, same)) waits
