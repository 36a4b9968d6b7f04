-- What is kept of calls: found again, and one result more.
use Rattle.std.proofs.Common.{◌≡◌, ◌≢◌, ◌⊎◌, inl, inr, ℕ, ◌-◌, ◌<◌, ◌≤◌, List, [], ◌∷◌, ◌++◌, length, get_or, refl, sym, ◌∙◌, ap, subst, suc, zero, arith, IsSome, Contains}
use Rattle.std.specs.Prelude.{slice_get, slice_set, unwrap_or}
use Rattle.std.proofs.lemmas.List.{length-set, set-get_or, get_or-set_same, get_or-set_other}
use Rattle.lrc_store.specs.Cells.{CellTree, nil, IsWithin}
use Rattle.lrc_store.specs.Standing.{IsRemembered}
use Rattle.lrc_store.specs.Words.{Finds, GainsPair}
use Rattle.lrc_plain.specs.Shelf.{Shelf, at, IsShelf}
use Rattle.lrc_plain.specs.Plain.{Plain, pairs, standing, outcome, IsMemo}
use Rattle.lrc_plain.proofs.Standings.{known-within, meant-at, tells}
use Rattle.lrc_plain.proofs.Calls.{remembered, missing}

-- what is kept for a known handle is a known handle
pub outcome-within : (allows : CellTree → CellTree → Type 0) (reach : CellTree → CellTree → List CellTree) (s : Shelf) (outcomes : List ℕ) (handle : ℕ) →
    IsMemo allows reach s outcomes → handle ≤ length s.cells → outcome outcomes handle ≤ length s.cells
outcome-within allows reach s outcomes zero m h = omega arith
outcome-within allows reach s outcomes (suc i) m h = m.known i (omega (arith, h, m.room, m.shelf.within))

-- what a handle stands for, as contracts say it
abbrev pub meant_in : List CellTree → ℕ → CellTree
meant_in cells handle = unwrap_or (slice_get (nil ∷ cells) handle) nil

finds-at : (allows : CellTree → CellTree → Type 0) (reach : CellTree → CellTree → List CellTree) (s : Shelf) (outcomes : List ℕ) (missed call handle : ℕ) →
    IsMemo allows reach s outcomes → call ≤ length s.cells → outcome outcomes call ≡ handle → outcome outcomes call ≢ 0 →
    Finds allows reach (standing s outcomes missed) (standing s outcomes missed) (at s.cells call) (at s.cells handle) handle
finds-at allows reach s outcomes missed call handle m h e n =
    let P : ℕ → Type 0 = λ k. Finds allows reach (standing s outcomes missed) (standing s outcomes missed) (at s.cells call) (at s.cells k) k in
    subst P e (record {
      allowed = m.allowed call h n;
      tells = tells s (outcome outcomes call) (at s.cells (outcome outcomes call)) outcomes missed m.shelf (outcome-within allows reach s outcomes call m h) refl;
      reached = m.reached call h n;
      remembered = remembered s outcomes call m.room m.shelf h n;
      missed = refl;
    })

-- a call that has a result is found
pub finds : (allows : CellTree → CellTree → Type 0) (reach : CellTree → CellTree → List CellTree) (s : Shelf) (outcomes : List ℕ) (missed call handle : ℕ) →
    IsMemo allows reach s outcomes → IsSome (slice_get (nil ∷ s.cells) call) → handle ≡ outcome outcomes call → handle ≢ 0 →
    Finds allows reach (standing s outcomes missed) (standing s outcomes missed) (meant_in s.cells call) (meant_in s.cells handle) handle
finds allows reach s outcomes missed call handle m known e n =
    let h = known-within s.cells call known in
    let o : handle ≤ length s.cells = let w = outcome-within allows reach s outcomes call m h in omega (arith, w, e) in
    let P : CellTree → Type 0 = λ x. Finds allows reach (standing s outcomes missed) (standing s outcomes missed) x (meant_in s.cells handle) handle in
    let Q : CellTree → Type 0 = λ y. Finds allows reach (standing s outcomes missed) (standing s outcomes missed) (at s.cells call) y handle in
    subst P (sym (meant-at s.cells call h)) (subst Q (sym (meant-at s.cells handle o)) (finds-at allows reach s outcomes missed call handle m h (sym e) (λ z. n (e ∙ z))))

-- a call that has none is in no pair
pub missing-meant : (s : Shelf) (outcomes : List ℕ) (call : ℕ) → IsShelf s → IsSome (slice_get (nil ∷ s.cells) call) → outcome outcomes call ≡ 0 →
    ¬ IsRemembered (pairs s.cells s.cells outcomes) (meant_in s.cells call)
missing-meant s outcomes call k known z =
    let h = known-within s.cells call known in
    let P : CellTree → Type 0 = λ x. ¬ IsRemembered (pairs s.cells s.cells outcomes) x in
    subst P (sym (meant-at s.cells call h)) (missing s outcomes call k h z)

decide : (a b : ℕ) → (a ≡ b) ⊎ (a ≢ b)
decide zero zero = inl refl
decide zero (suc b) = inr (λ e. omega arith)
decide (suc a) zero = inr (λ e. omega arith)
decide (suc a) (suc b) = over (decide a b) where
  over : (a ≡ b) ⊎ (a ≢ b) → (suc a ≡ suc b) ⊎ (suc a ≢ suc b)
  over (inl e) = inl (omega arith)
  over (inr n) = inr (λ e. n (omega arith))

-- a known call is given a result
pub record IsGiven (allows : CellTree → CellTree → Type 0) (reach : CellTree → CellTree → List CellTree) (s : Shelf) (call handle : ℕ) : Type 0 where
  pub some : 1 ≤ call
  pub filled : handle ≢ 0
  pub call_known : call ≤ length s.cells
  pub handle_known : handle ≤ length s.cells
  pub allowed : allows (at s.cells call) (at s.cells handle)
  pub reached : IsWithin (reach (at s.cells call) (at s.cells handle)) s.cells

memo-set-suc : (allows : CellTree → CellTree → Type 0) (reach : CellTree → CellTree → List CellTree) (s : Shelf) (outcomes : List ℕ) (i handle : ℕ) →
    IsMemo allows reach s outcomes → IsGiven allows reach s (suc i) handle → IsMemo allows reach s (slice_set outcomes i handle)
memo-set-suc allows reach s outcomes i handle m g = record {
  shelf = m.shelf;
  room = length-set outcomes i handle ∙ m.room;
  rest = λ k h l. get_or-set_other outcomes i k handle 0 (λ e. omega (arith, g.call_known)) ∙ m.rest k h (omega (arith, length-set outcomes i handle));
  known = λ k l. known k (decide k i) (omega (arith, length-set outcomes i handle));
  allowed = λ k h n. allowed k h n;
  reached = λ k h n. reached k h n;
} where
  here : i < length outcomes
  here = omega (arith, g.call_known, m.room, m.shelf.within)

  at-here : (k : ℕ) → k ≡ i → get_or (slice_set outcomes i handle) k 0 ≡ handle
  at-here k e = ap (λ (j : ℕ). get_or (slice_set outcomes i handle) j 0) e ∙ get_or-set_same outcomes i handle 0 here

  at-other : (k : ℕ) → k ≢ i → get_or (slice_set outcomes i handle) k 0 ≡ get_or outcomes k 0
  at-other k n = get_or-set_other outcomes i k handle 0 n

  known : (k : ℕ) → (k ≡ i) ⊎ (k ≢ i) → k < length outcomes → get_or (slice_set outcomes i handle) k 0 ≤ length s.cells
  known k (inl e) l = omega (arith, at-here k e, g.handle_known)
  known k (inr n) l = omega (arith, at-other k n, m.known k l)

  either : (k : ℕ) → (k ≡ i) ⊎ (k ≢ i) → suc k ≤ length s.cells → get_or (slice_set outcomes i handle) k 0 ≢ 0 →
      allows (at s.cells (suc k)) (at s.cells (get_or (slice_set outcomes i handle) k 0)) × IsWithin (reach (at s.cells (suc k)) (at s.cells (get_or (slice_set outcomes i handle) k 0))) s.cells
  either k (inl e) h n =
      let P : ℕ → ℕ → Type 0 = λ a b. allows (at s.cells (suc a)) (at s.cells b) × IsWithin (reach (at s.cells (suc a)) (at s.cells b)) s.cells in
      subst (λ (a : ℕ). P a (get_or (slice_set outcomes i handle) k 0)) (sym e) (subst (λ (b : ℕ). P i b) (sym (at-here k e)) (g.allowed, g.reached))
  either k (inr o) h n =
      let P : ℕ → Type 0 = λ b. allows (at s.cells (suc k)) (at s.cells b) × IsWithin (reach (at s.cells (suc k)) (at s.cells b)) s.cells in
      let some : get_or outcomes k 0 ≢ 0 = λ z. n (at-other k o ∙ z) in
      subst P (sym (at-other k o)) (m.allowed (suc k) h some, m.reached (suc k) h some)

  allowed : (k : ℕ) → k ≤ length s.cells → outcome (slice_set outcomes i handle) k ≢ 0 → allows (at s.cells k) (at s.cells (outcome (slice_set outcomes i handle) k))
  allowed zero h n = absurd (n refl)
  allowed (suc k) h n = (either k (decide k i) h n).0

  reached : (k : ℕ) → k ≤ length s.cells → outcome (slice_set outcomes i handle) k ≢ 0 → IsWithin (reach (at s.cells k) (at s.cells (outcome (slice_set outcomes i handle) k))) s.cells
  reached zero h n = absurd (n refl)
  reached (suc k) h n = (either k (decide k i) h n).1

-- what is kept of calls stands after one result more
pub memo-set : (allows : CellTree → CellTree → Type 0) (reach : CellTree → CellTree → List CellTree) (s : Shelf) (outcomes : List ℕ) (call handle : ℕ) →
    IsMemo allows reach s outcomes → IsGiven allows reach s call handle → IsMemo allows reach s (slice_set outcomes (call - 1) handle)
memo-set allows reach s outcomes zero handle m g = absurd (omega (arith, g.some))
memo-set allows reach s outcomes (suc i) handle m g =
    let e : i ≡ suc i - 1 = omega arith in
    let P : ℕ → Type 0 = λ k. IsMemo allows reach s (slice_set outcomes k handle) in
    subst P e (memo-set-suc allows reach s outcomes i handle m g)

-- the pairs with one more at some place
abbrev pub IsInserted : List (CellTree × CellTree) → List (CellTree × CellTree) → CellTree × CellTree → Type 0
IsInserted before after more = (left : List (CellTree × CellTree)) × (right : List (CellTree × CellTree)) × (before ≡ left ++ right) × (after ≡ left ++ more ∷ right)

inserted-behind : (first more : CellTree × CellTree) (before after : List (CellTree × CellTree)) → IsInserted before after more → IsInserted (first ∷ before) (first ∷ after) more
inserted-behind first more before after (left, right, e, f) =
    (first ∷ left, right, ap (λ (xs : List (CellTree × CellTree)). first ∷ xs) e, ap (λ (xs : List (CellTree × CellTree)). first ∷ xs) f)

inserted : (all cells : List CellTree) (outcomes : List ℕ) (i handle : ℕ) → i < length cells → i < length outcomes → get_or outcomes i 0 ≡ 0 → handle ≢ 0 →
    IsInserted (pairs all cells outcomes) (pairs all cells (slice_set outcomes i handle)) (get_or cells i nil, at all handle)
inserted all [] outcomes i handle h l z n = absurd (omega arith)
inserted all (c ∷ cells) [] i handle h l z n = absurd (omega arith)
inserted all (c ∷ cells) (zero ∷ outcomes) zero zero h l z n = absurd (n refl)
inserted all (c ∷ cells) (zero ∷ outcomes) zero (suc handle) h l z n = ([], pairs all cells outcomes, refl, refl)
inserted all (c ∷ cells) (suc o ∷ outcomes) zero handle h l z n = absurd (omega (arith, z))
inserted all (c ∷ cells) (zero ∷ outcomes) (suc i) handle h l z n = inserted all cells outcomes i handle (omega arith) (omega arith) z n
inserted all (c ∷ cells) (suc o ∷ outcomes) (suc i) handle h l z n =
    inserted-behind (c, at all (suc o)) _ _ _ (inserted all cells outcomes i handle (omega arith) (omega arith) z n)

gains-suc : (allows : CellTree → CellTree → Type 0) (reach : CellTree → CellTree → List CellTree) (s : Shelf) (outcomes : List ℕ) (i handle : ℕ) →
    ((call one other : CellTree) → allows call one → allows call other → one ≡ other) →
    IsMemo allows reach s outcomes → IsGiven allows reach s (suc i) handle →
    GainsPair (pairs s.cells s.cells outcomes) (pairs s.cells s.cells (slice_set outcomes i handle)) (at s.cells (suc i)) (at s.cells handle)
gains-suc allows reach s outcomes i handle single m g = over (decide (get_or outcomes i 0) 0) where
  over : (get_or outcomes i 0 ≡ 0) ⊎ (get_or outcomes i 0 ≢ 0) → GainsPair (pairs s.cells s.cells outcomes) (pairs s.cells s.cells (slice_set outcomes i handle)) (at s.cells (suc i)) (at s.cells handle)
  over (inl z) = inr (missing s outcomes (suc i) m.shelf g.call_known z, inserted s.cells s.cells outcomes i handle (omega (arith, g.call_known)) (omega (arith, g.call_known, m.room, m.shelf.within)) z g.filled)
  over (inr o) =
      let same : get_or outcomes i 0 ≡ handle = m.shelf.distinct (get_or outcomes i 0) handle (m.known i (omega (arith, g.call_known, m.room, m.shelf.within))) g.handle_known (single _ _ _ (m.allowed (suc i) g.call_known o) g.allowed) in
      let P : ℕ → Type 0 = λ k. Contains (pairs s.cells s.cells outcomes) (at s.cells (suc i), at s.cells k) × (pairs s.cells s.cells (slice_set outcomes i k) ≡ pairs s.cells s.cells outcomes) in
      inl (subst P same (remembered s outcomes (suc i) m.room m.shelf g.call_known o, ap (pairs s.cells s.cells) (set-get_or outcomes i 0)))

-- the memo gains the pair of a call that is given a result
pub gains : (allows : CellTree → CellTree → Type 0) (reach : CellTree → CellTree → List CellTree) (s : Shelf) (outcomes : List ℕ) (call handle : ℕ) →
    ((call one other : CellTree) → allows call one → allows call other → one ≡ other) →
    IsMemo allows reach s outcomes → IsGiven allows reach s call handle →
    GainsPair (pairs s.cells s.cells outcomes) (pairs s.cells s.cells (slice_set outcomes (call - 1) handle)) (at s.cells call) (at s.cells handle)
gains allows reach s outcomes zero handle single m g = absurd (omega (arith, g.some))
gains allows reach s outcomes (suc i) handle single m g =
    let e : i ≡ suc i - 1 = omega arith in
    let P : ℕ → Type 0 = λ k. GainsPair (pairs s.cells s.cells outcomes) (pairs s.cells s.cells (slice_set outcomes k handle)) (at s.cells (suc i)) (at s.cells handle) in
    subst P e (gains-suc allows reach s outcomes i handle single m g)

given-at : (allows : CellTree → CellTree → Type 0) (reach : CellTree → CellTree → List CellTree) (s : Shelf) (call handle : ℕ) →
    ((c r : CellTree) → allows c r → (c ≢ nil) × (r ≢ nil)) → call ≤ length s.cells → handle ≤ length s.cells →
    allows (at s.cells call) (at s.cells handle) → IsWithin (reach (at s.cells call) (at s.cells handle)) s.cells → IsGiven allows reach s call handle
given-at allows reach s zero handle filled c h a r = absurd ((filled _ _ a).0 refl)
given-at allows reach s (suc i) zero filled c h a r = absurd ((filled _ _ a).1 refl)
given-at allows reach s (suc i) (suc j) filled c h a r = record {
  some = omega arith;
  filled = λ z. omega (arith, z);
  call_known = c;
  handle_known = h;
  allowed = a;
  reached = r;
}

-- what a caller of remember shows, over the fields
pub given : {M : Type 0} (allows : M → CellTree → CellTree → Type 0) (reach : M → CellTree → CellTree → List CellTree) (v now : Plain M) (call handle : ℕ) → v ≡ now →
    ((m : M) (c r : CellTree) → allows m c r → (c ≢ nil) × (r ≢ nil)) → IsSome (slice_get (nil ∷ now.shelf.cells) call) → IsSome (slice_get (nil ∷ now.shelf.cells) handle) →
    allows now.meaning (meant_in now.shelf.cells call) (meant_in now.shelf.cells handle) →
    IsWithin (reach now.meaning (meant_in now.shelf.cells call) (meant_in now.shelf.cells handle)) now.shelf.cells →
    IsGiven (allows v.meaning) (reach v.meaning) v.shelf call handle
given {M} allows reach v now call handle e filled kc kh a r =
    let c = known-within now.shelf.cells call kc in
    let h = known-within now.shelf.cells handle kh in
    let May : CellTree → CellTree → Type 0 = λ x y. allows now.meaning x y × IsWithin (reach now.meaning x y) now.shelf.cells in
    let may = subst (λ (x : CellTree). May x (at now.shelf.cells handle)) (meant-at now.shelf.cells call c)
    (subst (λ (y : CellTree). May (meant_in now.shelf.cells call) y) (meant-at now.shelf.cells handle h) (a, r)) in
    let P : Plain M → Type 0 = λ n. IsGiven (allows n.meaning) (reach n.meaning) n.shelf call handle in
    subst P (sym e) (given-at (allows now.meaning) (reach now.meaning) now.shelf call handle (filled now.meaning) c h may.0 may.1)

-- the gain, as contracts say it
pub gains-seen : {M : Type 0} (allows : M → CellTree → CellTree → Type 0) (reach : M → CellTree → CellTree → List CellTree) (v now : Plain M) (call handle : ℕ) → v ≡ now →
    ((m : M) (call one other : CellTree) → allows m call one → allows m call other → one ≡ other) →
    IsMemo (allows v.meaning) (reach v.meaning) v.shelf v.outcomes → IsGiven (allows v.meaning) (reach v.meaning) v.shelf call handle →
    GainsPair (pairs now.shelf.cells now.shelf.cells now.outcomes) (pairs v.shelf.cells v.shelf.cells (slice_set v.outcomes (call - 1) handle)) (meant_in now.shelf.cells call) (meant_in now.shelf.cells handle)
gains-seen {M} allows reach v now call handle e single m g =
    let before = pairs v.shelf.cells v.shelf.cells v.outcomes in
    let after = pairs v.shelf.cells v.shelf.cells (slice_set v.outcomes (call - 1) handle) in
    let P : Plain M → Type 0 = λ n. GainsPair (pairs n.shelf.cells n.shelf.cells n.outcomes) after (meant_in n.shelf.cells call) (meant_in n.shelf.cells handle) in
    subst P e
    (subst (λ (x : CellTree). GainsPair before after x (meant_in v.shelf.cells handle)) (sym (meant-at v.shelf.cells call g.call_known))
    (subst (λ (y : CellTree). GainsPair before after (at v.shelf.cells call) y) (sym (meant-at v.shelf.cells handle g.handle_known))
    (gains (allows v.meaning) (reach v.meaning) v.shelf v.outcomes call handle (single v.meaning) m g)))
