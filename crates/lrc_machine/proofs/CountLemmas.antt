-- What is remembered and missed since a machine started, relative to its level: each body that runs or waits has missed and is
-- not remembered, and each call that was remembered has missed too.
use Rattle.std.proofs.Common.{◌≡◌, ◌⊎◌, inl, inr, ◌+◌, ◌-◌, ◌<◌, ◌^◌, min, ℕ, zero, suc, List, [], ◌∷◌, length, Option, Some, None, Contains, refl, sym, ap, subst, arith}
use Rattle.std.proofs.lemmas.List.Elements.{Contains-append_left, Contains-append_right, Contains-append_cases}
use Rattle.lrc_store.specs.Cells.{CellTree}
use Rattle.lrc_store.specs.Standing.{Standing, HasNoRepeats, IsRemembered, Told}
use Rattle.lrc_store.specs.Words.{Remembers, GainsPair}
use Rattle.lrc_machine.specs.Counts.{Pairs, KeepsPairs, IsGained, IsFresh, Ticks, keeps, begins, ends, CountedIn}

-- ---- members of lists

no_member : {X : Type 0} (x : X) → Contains [] x → ⊥
no_member x h = omega (arith, h.1)

is_first : {X : Type 0} (y x : X) (xs : List X) → y ≡ x → Contains (y ∷ xs) x
is_first y x xs e = (0, omega arith, e)

is_later : {X : Type 0} (y x : X) (xs : List X) → Contains xs x → Contains (y ∷ xs) x
is_later y x xs (i, h, e) = (suc i, omega (arith, h), e)

first_or : {X : Type 0} (y x : X) (xs : List X) → Contains (y ∷ xs) x → (y ≡ x) ⊎ Contains xs x
first_or y x xs (zero, h, e) = inl e
first_or y x xs (suc i, h, e) = inr (i, omega (arith, h), e)

-- ---- a pair that is gained

pub keeps_same : (before after : Option Pairs) → after ≡ before → KeepsPairs before after
keeps_same None None e = tt
keeps_same (Some old) (Some new) e = λ call outcome h. subst (λ o. Told o (λ pairs. Contains pairs (call, outcome))) (sym e) h
keeps_same None (Some new) e = cc
keeps_same (Some old) None e = cc

pub gained_keeps : (before after : Pairs) (call outcome : CellTree) → GainsPair before after call outcome → (one other : CellTree) → Contains before (one, other) → Contains after (one, other)
gained_keeps before after call outcome (inl (h, same)) one other there = subst (λ (pairs : Pairs). Contains pairs (one, other)) (sym same) there
gained_keeps before after call outcome (inr (h, (left, right, old, new))) one other there =
    subst (λ (pairs : Pairs). Contains pairs (one, other)) (sym new)
    (elim (Contains-append_cases left right (one, other) (subst (λ (pairs : Pairs). Contains pairs (one, other)) old there)) [
      | inl k ↦ Contains-append_left left ((call, outcome) ∷ right) (one, other) k
      | inr k ↦ Contains-append_right left ((call, outcome) ∷ right) (one, other) (is_later (call, outcome) (one, other) right k)
    ])

pub keeps_gained : (before after : Option Pairs) (call outcome : CellTree) → Remembers before after call outcome → KeepsPairs before after
keeps_gained None None call outcome h = tt
keeps_gained (Some old) (Some new) call outcome h = gained_keeps old new call outcome h
keeps_gained None (Some new) call outcome h = absurd h
keeps_gained (Some old) None call outcome h = absurd h

-- a pair that is there behind it was so before, or is this one
pub gained_pair : (before after : Pairs) (call outcome : CellTree) → GainsPair before after call outcome → (one other : CellTree) → Contains after (one, other) → Contains before (one, other) ⊎ ((call ≡ one) × (outcome ≡ other))
gained_pair before after call outcome (inl (h, same)) one other there = inl (subst (λ (pairs : Pairs). Contains pairs (one, other)) same there)
gained_pair before after call outcome (inr (h, (left, right, old, new))) one other there =
    elim (Contains-append_cases left ((call, outcome) ∷ right) (one, other) (subst (λ (pairs : Pairs). Contains pairs (one, other)) new there)) [
      | inl k ↦ inl (subst (λ (pairs : Pairs). Contains pairs (one, other)) (sym old) (Contains-append_left left right (one, other) k))
      | inr k ↦ elim (first_or (call, outcome) (one, other) right k) [
        | inl e ↦ inr (ap (λ (pair : CellTree × CellTree). pair.0) e, ap (λ (pair : CellTree × CellTree). pair.1) e)
        | inr l ↦ inl (subst (λ (pairs : Pairs). Contains pairs (one, other)) (sym old) (Contains-append_right left right (one, other) l))
      ]
    ]

-- so what is remembered was so before, or is its call
gained_or : (before after : Pairs) (call outcome : CellTree) → GainsPair before after call outcome → (cell : CellTree) → IsRemembered after cell → IsRemembered before cell ⊎ (cell ≡ call)
gained_or before after call outcome h cell (other, there) =
    elim (gained_pair before after call outcome h cell other there) [
      | inl k ↦ inl (other, k)
      | inr e ↦ inr (sym e.0)
    ]

-- and it is there
pub gained_there : (before after : Pairs) (call outcome : CellTree) → GainsPair before after call outcome → Contains after (call, outcome)
gained_there before after call outcome (inl (h, same)) = subst (λ (pairs : Pairs). Contains pairs (call, outcome)) (sym same) h
gained_there before after call outcome (inr (h, (left, right, old, new))) =
    subst (λ (pairs : Pairs). Contains pairs (call, outcome)) (sym new) (Contains-append_right left ((call, outcome) ∷ right) (call, outcome) (is_first (call, outcome) (call, outcome) right refl))

-- a call that is another one is no more remembered than before
fresh_pairs : (before after : Option Pairs) (call outcome : CellTree) → Remembers before after call outcome → (cell : CellTree) → ¬ (cell ≡ call)
    → Told before (λ pairs. ¬ IsRemembered pairs cell) → Told after (λ pairs. ¬ IsRemembered pairs cell)
fresh_pairs None None call outcome h cell other fresh = tt
fresh_pairs (Some old) (Some new) call outcome h cell other fresh = λ there.
    elim (gained_or old new call outcome h cell there) [ inl k ↦ fresh k | inr e ↦ other e ]
fresh_pairs None (Some new) call outcome h cell other fresh = absurd h
fresh_pairs (Some old) None call outcome h cell other fresh = absurd h

pub fresh_still : (s t : Standing) (call : CellTree) → IsGained s t call → (cell : CellTree) → ¬ (cell ≡ call) → IsFresh s cell → IsFresh t cell
fresh_still s t call gained cell other fresh = fresh_pairs s.memo t.memo call gained.outcome gained.remembers cell other fresh

-- ---- the count at a level

module _ (is_met : CellTree → Type 0) (fuel : ℕ) where
  -- The gained cells, each once, are those that are remembered now and were not before, and they are met. What was missed is
  -- their number and that of the levels from this one on.
  pub record CountsPairs (before after : Pairs) (missed now level : ℕ) : Type 0 where
    pub gained : List CellTree
    pub once : HasNoRepeats gained
    pub unknown : (cell : CellTree) → Contains gained cell → ¬ IsRemembered before cell
    pub met : (cell : CellTree) → Contains gained cell → is_met cell
    pub kept : (cell : CellTree) → IsRemembered before cell → IsRemembered after cell
    pub added : (cell : CellTree) → Contains gained cell → IsRemembered after cell
    pub only : (cell : CellTree) → IsRemembered after cell → IsRemembered before cell ⊎ Contains gained cell
    pub count : now ≡ min (missed + (length gained + (fuel - level))) (2 ^ 64 - 1)

  abbrev pub CountsIn : Option Pairs → Option Pairs → ℕ → ℕ → ℕ → Type 0
  CountsIn None None missed now level = Unit {0}
  CountsIn (Some before) (Some after) missed now level = CountsPairs before after missed now level
  CountsIn None (Some after) missed now level = ⊥
  CountsIn (Some before) None missed now level = ⊥

  abbrev pub Counts : Standing → Standing → ℕ → Type 0
  Counts s t level = CountsIn s.memo t.memo s.missed t.missed level

  -- at the start
  starts_in : (memo : Option Pairs) (missed : ℕ) → missed < 2 ^ 64 → CountsIn memo memo missed missed fuel
  starts_in None missed fits = tt
  starts_in (Some pairs) missed fits = record {
    gained = [];
    once = tt;
    unknown = λ cell h. absurd (no_member cell h);
    met = λ cell h. absurd (no_member cell h);
    kept = λ cell h. h;
    added = λ cell h. absurd (no_member cell h);
    only = λ cell h. inl h;
    count = omega (arith, fits);
  }

  pub counts_start : (s : Standing) → s.missed < 2 ^ 64 → Counts s s fuel
  counts_start s fits = starts_in s.memo s.missed fits

  -- a recall that finds nothing
  begins_in : (before after : Option Pairs) (missed now then level next : ℕ) → then ≡ min (now + 1) (2 ^ 64 - 1) → level ≡ suc next → next < fuel
      → CountsIn before after missed now level → CountsIn before after missed then next
  begins_in None None missed now then level next on down low c = tt
  begins_in (Some before) (Some after) missed now then level next on down low c = record {
    gained = c.gained;
    once = c.once;
    unknown = c.unknown;
    met = c.met;
    kept = c.kept;
    added = c.added;
    only = c.only;
    count = let count = c.count in omega (arith, count, on, down, low);
  }
  begins_in None (Some after) missed now then level next on down low c = absurd c
  begins_in (Some before) None missed now then level next on down low c = absurd c

  -- the end of a body
  ends_in : (before after last : Option Pairs) (missed now level : ℕ) (call outcome : CellTree) → is_met call → Told after (λ pairs. ¬ IsRemembered pairs call) → Remembers after last call outcome → level < fuel
      → CountsIn before after missed now level → CountsIn before last missed now (suc level)
  ends_in None None None missed now level call outcome met fresh h low c = tt
  ends_in (Some before) (Some after) (Some last) missed now level call outcome met fresh h low c = record {
    gained = call ∷ c.gained;
    once = (λ there. fresh (c.added call there), c.once);
    unknown = λ cell there. elim (first_or call cell c.gained there) [
      | inl e ↦ λ known. fresh (subst (IsRemembered after) (sym e) (c.kept cell known))
      | inr k ↦ c.unknown cell k
    ];
    met = λ cell there. elim (first_or call cell c.gained there) [ inl e ↦ subst is_met e met | inr k ↦ c.met cell k ];
    kept = λ cell known. let was = c.kept cell known in (was.0, gained_keeps after last call outcome h cell was.0 was.1);
    added = λ cell there. elim (first_or call cell c.gained there) [
      | inl e ↦ subst (IsRemembered last) e (outcome, gained_there after last call outcome h)
      | inr k ↦ let was = c.added cell k in (was.0, gained_keeps after last call outcome h cell was.0 was.1)
    ];
    only = λ cell there. elim (gained_or after last call outcome h cell there) [
      | inl was ↦ elim (c.only cell was) [ inl k ↦ inl k | inr k ↦ inr (is_later call cell c.gained k) ]
      | inr e ↦ inr (is_first call cell c.gained (sym e))
    ];
    count = let count = c.count in omega (arith, count, low);
  }
  ends_in None None (Some last) missed now level call outcome met fresh h low c = absurd h
  ends_in (Some before) (Some after) None missed now level call outcome met fresh h low c = absurd h
  ends_in None (Some after) last missed now level call outcome met fresh h low c = absurd c
  ends_in (Some before) None last missed now level call outcome met fresh h low c = absurd c

  -- a turn keeps the count
  pub ticked : (first s t : Standing) (level next : ℕ) → Ticks is_met fuel s t level next → Counts first s level → Counts first t next
  ticked first s t level next (keeps kept same) c =
      subst (λ n. CountsIn first.memo t.memo first.missed t.missed n) (sym same)
      (subst (λ now. CountsIn first.memo t.memo first.missed now level) (sym kept.missed)
      (subst (λ memo. CountsIn first.memo memo first.missed s.missed level) (sym kept.memo) c))
  ticked first s t level next (begins missed down low) c =
      let misses = missed.misses in
      subst (λ memo. CountsIn first.memo memo first.missed t.missed next) (sym missed.memo)
      (begins_in first.memo s.memo first.missed s.missed t.missed level next misses.missed down low c)
  ticked first s t level next (ends {call = call} met fresh gained up low) c =
      subst (λ n. CountsIn first.memo t.memo first.missed t.missed n) (sym up)
      (subst (λ now. CountsIn first.memo t.memo first.missed now (suc level)) (sym gained.missed)
      (ends_in first.memo s.memo t.memo first.missed s.missed level call gained.outcome met fresh gained.remembers low c))

  -- at the end
  counted_in : (before after : Option Pairs) (missed now : ℕ) → ((cell : CellTree) → is_met cell → Told after (λ pairs. IsRemembered pairs cell))
      → CountsIn before after missed now fuel → CountedIn is_met before after missed now
  counted_in None None missed now all c = tt
  counted_in (Some before) (Some after) missed now all c = record {
    memo = λ cell. (
      λ there. elim (c.only cell there) [ inl k ↦ inl k | inr k ↦ inr (c.met cell k) ],
      λ known. elim known [ inl k ↦ c.kept cell k | inr k ↦ all cell k ],
    );
    new = (
      c.gained,
      c.once,
      λ cell. (
        λ there. (c.met cell there, c.unknown cell there),
        λ known. elim (c.only cell (all cell known.0)) [ inl k ↦ absurd (known.1 k) | inr k ↦ k ],
      ),
      (let count = c.count in omega (arith, count)),
    );
  }
  counted_in None (Some after) missed now all c = absurd c
  counted_in (Some before) None missed now all c = absurd c

  pub counted_end : (s t : Standing) (level : ℕ) → level ≡ fuel → ((cell : CellTree) → is_met cell → Told t.memo (λ pairs. IsRemembered pairs cell))
      → Counts s t level → CountedIn is_met s.memo t.memo s.missed t.missed
  counted_end s t level top all c = counted_in s.memo t.memo s.missed t.missed all (subst (λ n. CountsIn s.memo t.memo s.missed t.missed n) top c)
