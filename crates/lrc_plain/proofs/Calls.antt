-- What the calls of a store of one owner do to what it stands for.
use Rattle.std.proofs.Common.{◌≡◌, ◌≢◌, ◌⊎◌, inl, inr, ℕ, ◌+◌, ◌<◌, ◌≤◌, List, [], ◌∷◌, ◌++◌, length, get_or, refl, sym, ◌∙◌, ap, subst, suc, zero, arith, length-append, IsSome, Contains, Bool}
use Rattle.std.proofs.lemmas.List.Elements.{Contains-append_left}
use Rattle.std.specs.Prelude.{slice_get, unwrap_or, Result, Ok, Err, IfOk, OnErr, IsErr, IsTrue, ◌↔◌}
use Rattle.lrc_store.specs.Cells.{CellTree, nil, pair, IsWithin}
use Rattle.lrc_store.specs.Standing.{IsRemembered}
use Rattle.lrc_store.specs.Words.{Puts, Shows}
use Rattle.lrc_store.proofs.Lasting.{once-made}
use Rattle.lrc_store.specs.declared.cells.Cell.{Cell}
use Rattle.lrc_store.specs.declared.cells.Cell.TheVariants as cell
use Rattle.lrc_store.specs.declared.cells.Handle.{Handle}
use Rattle.lrc_store.specs.declared.stores.Full.{Full}
use Rattle.lrc_plain.specs.Shelf.{Shelf, at, IsNamed, IsShelf, IsPlaced, IsFullOf}
use Rattle.lrc_plain.specs.Rows.{whole, IsFor, IsOver}
use Rattle.lrc_plain.specs.Plain.{Plain, pairs, standing, state_of, outcome, IsMemo, IsFullAt}
use Rattle.lrc_plain.proofs.RowLemmas.{at-push, below, pair_of, whole-not_nil}
use Rattle.lrc_plain.proofs.Lists.{named-contained, named-cases, row-of_pair, pair-of_row}
use Rattle.lrc_plain.proofs.Standings.{IsGrown, known-within, within-known, meant-at, adds, tells, full}

-- two known handles stand for equal cells exactly where they are equal
pub same-cells : (s : Shelf) (left right : Handle) (b : Bool) → IsShelf s → IsSome (slice_get (nil ∷ s.cells) left.0) → IsSome (slice_get (nil ∷ s.cells) right.0) →
    (IsTrue b ↔ (left ≡ right)) → IsTrue b ↔ (unwrap_or (slice_get (nil ∷ s.cells) left.0) nil ≡ unwrap_or (slice_get (nil ∷ s.cells) right.0) nil)
same-cells s left right b k l r e =
    let a = known-within s.cells left.0 l in
    let c = known-within s.cells right.0 r in
    let handle : ℕ → Handle = λ n. record { 0 = n } in (
      (λ t. ap (λ (h : Handle). unwrap_or (slice_get (nil ∷ s.cells) h.0) nil) (e.0 t)),
      (λ m. e.1 (ap handle (k.distinct left.0 right.0 a c (sym (meant-at s.cells left.0 a) ∙ m ∙ meant-at s.cells right.0 c)))),
    )

-- the pair of what two known handles stand for
pub whole-meant : (s : Shelf) (tag : ℕ) (left right : Handle) → IsSome (slice_get (nil ∷ s.cells) left.0) → IsSome (slice_get (nil ∷ s.cells) right.0) →
    whole s.cells (cell.Pair tag left right) ≡ pair tag (unwrap_or (slice_get (nil ∷ s.cells) left.0) nil) (unwrap_or (slice_get (nil ∷ s.cells) right.0) nil)
whole-meant s tag left right l r =
    pair_of tag _ _ _ _ (sym (meant-at s.cells left.0 (known-within s.cells left.0 l))) (sym (meant-at s.cells right.0 (known-within s.cells right.0 r)))

-- a form over known handles shows its cell
pub shows : (s : Shelf) (outcomes : List ℕ) (missed : ℕ) (form : Cell) (handle : ℕ) → handle ≤ length s.cells → whole s.cells form ≡ at s.cells handle → IsOver (length s.cells) form →
    Shows (standing s outcomes missed) form (unwrap_or (slice_get (nil ∷ s.cells) handle) nil)
shows s outcomes missed cell.Nil handle h e o = meant-at s.cells handle h ∙ sym e
shows s outcomes missed (cell.Number value) handle h e o = meant-at s.cells handle h ∙ sym e
shows s outcomes missed (cell.Pair tag left right) handle h e o =
    let l = within-known s.cells left.0 o.0 in
    let r = within-known s.cells right.0 o.1 in
    (l, r, meant-at s.cells handle h ∙ sym e ∙ whole-meant s tag left right l r)

pub grown : (s t : Shelf) (c : CellTree) (answer : Result Handle Full) → IfOk answer (λ handle. IsPlaced s t c handle.0) → OnErr answer (IsFullOf s t c) → IsGrown s t c
grown s t c (Err e) ok err = inl err.cells
grown s t c (Ok handle) ok err = over ok.cells where
  over : (IsNamed s.cells c × (t.cells ≡ s.cells)) ⊎ ((¬ IsNamed s.cells c) × (length s.cells < s.quota) × (t.cells ≡ s.cells ++ c ∷ [])) → IsGrown s t c
  over (inl a) = inl a.1
  over (inr b) = inr b.2

pub puts : (s t : Shelf) (c : CellTree) (outcomes : List ℕ) (missed : ℕ) (answer : Result Handle Full) →
    ((i : ℕ) → length s.cells ≤ i → i < length outcomes → get_or outcomes i 0 ≡ 0) →
    ((i : ℕ) → i < length outcomes → get_or outcomes i 0 ≤ length s.cells) →
    t.quota ≡ s.quota → IsShelf t → IfOk answer (λ handle. IsPlaced s t c handle.0) → OnErr answer (IsFullOf s t c) →
    Puts (standing s outcomes missed) (standing t outcomes missed) c answer
puts s t c outcomes missed (Ok handle) rest known quota k ok err = record {
  adds = adds s t c outcomes missed rest known quota k (grown s t c (Ok handle) ok err);
  once = once-made (standing s outcomes missed) (standing t outcomes missed) c (grown s t c (Ok handle) ok err);
  ok = tells t handle.0 c outcomes missed k ok.within ok.stands;
  full = err;
}
puts s t c outcomes missed (Err e) rest known quota k ok err = record {
  adds = adds s t c outcomes missed rest known quota k (inl err.cells);
  once = once-made (standing s outcomes missed) (standing t outcomes missed) c (inl err.cells);
  ok = ok;
  full = full t c outcomes missed (let P : List CellTree → Type 0 = λ cells. ¬ IsNamed cells c in subst P (sym err.cells) err.unnamed) (ap length err.cells ∙ err.used ∙ sym quota);
}

-- the same, seen through what the fields stand for
pub puts-seen : {M : Type 0} (v now : Plain M) (t : Shelf) (form : Cell) (answer : Result Handle Full) → v ≡ now →
    ((i : ℕ) → length v.shelf.cells ≤ i → i < length v.outcomes → get_or v.outcomes i 0 ≡ 0) →
    ((i : ℕ) → i < length v.outcomes → get_or v.outcomes i 0 ≤ length v.shelf.cells) →
    t.quota ≡ v.shelf.quota → IsShelf t → IfOk answer (λ handle. IsPlaced v.shelf t (whole v.shelf.cells form) handle.0) → OnErr answer (IsFullOf v.shelf t (whole v.shelf.cells form)) →
    Puts (state_of now) (standing t v.outcomes v.missed) (whole now.shelf.cells form) answer
puts-seen {M} v now t form answer e rest known quota k ok err =
    let P : Plain M → Type 0 = λ n. Puts (state_of n) (standing t v.outcomes v.missed) (whole n.shelf.cells form) answer in
    subst P e (puts v.shelf t (whole v.shelf.cells form) v.outcomes v.missed answer rest known quota k ok err)

exact : (s t : Shelf) (outcomes : List ℕ) (missed : ℕ) (c : CellTree) (answer : Result Handle Full) → (nil ≡ c → ⊥) → IfOk answer (λ handle. IsPlaced s t c handle.0) → OnErr answer (IsFullOf s t c) → IsErr answer ↔ IsFullAt (standing s outcomes missed) c
exact s t outcomes missed c (Err e) some ok err = ((λ _. record { absent = λ h. err.unnamed (named-contained s.cells c h); used = err.used }), (λ _. refl))
exact s t outcomes missed c (Ok handle) some ok err = ((λ never. cc), (λ f. absurd (over ok.cells f))) where
  absent : (nil ≡ c) ⊎ Contains s.cells c → IsFullAt (standing s outcomes missed) c → ⊥
  absent (inl n) f = some n
  absent (inr h) f = f.absent h

  over : (IsNamed s.cells c × (t.cells ≡ s.cells)) ⊎ ((¬ IsNamed s.cells c) × (length s.cells < s.quota) × (t.cells ≡ s.cells ++ c ∷ [])) → IsFullAt (standing s outcomes missed) c → ⊥
  over (inl a) f = absent (named-cases s.cells c a.0) f
  over (inr b) f = omega (arith, b.1, f.used)

pub exact-seen : {M : Type 0} (v now : Plain M) (t : Shelf) (form : Cell) (n : ℕ) (answer : Result Handle Full) → v ≡ now → IsFor n form →
    IfOk answer (λ handle. IsPlaced v.shelf t (whole v.shelf.cells form) handle.0) → OnErr answer (IsFullOf v.shelf t (whole v.shelf.cells form)) →
    IsErr answer ↔ IsFullAt (state_of now) (whole now.shelf.cells form)
exact-seen {M} v now t form n answer e h ok err =
    let P : Plain M → Type 0 = λ p. IsErr answer ↔ IsFullAt (state_of p) (whole p.shelf.cells form) in
    subst P e (exact v.shelf t v.outcomes v.missed (whole v.shelf.cells form) answer (whole-not_nil v.shelf.cells n form h) ok err)

-- what is kept of calls stands after a row more
memo-more : (allows : CellTree → CellTree → Type 0) (reach : CellTree → CellTree → List CellTree) (s t : Shelf) (c : CellTree) (outcomes : List ℕ) →
    IsMemo allows reach s outcomes → IsShelf t → t.quota ≡ s.quota → t.cells ≡ s.cells ++ c ∷ [] → IsMemo allows reach t outcomes
memo-more allows reach s t c outcomes m k quota e = record {
  shelf = k;
  room = m.room ∙ sym quota;
  rest = λ i h l. m.rest i (omega (arith, h, more)) l;
  known = λ i l. omega (arith, m.known i l, more);
  allowed = λ handle h n. let l = within handle h n in
      let o = outcome-known handle l in
      subst (λ (x : CellTree). allows x (at t.cells (outcome outcomes handle))) (sym (stays handle l)) (subst (λ (x : CellTree). allows (at s.cells handle) x) (sym (stays (outcome outcomes handle) o)) (m.allowed handle l n));
  reached = λ handle h n. let l = within handle h n in
      let o = outcome-known handle l in
      subst (λ (x : CellTree). IsWithin (reach x (at t.cells (outcome outcomes handle))) t.cells) (sym (stays handle l))
      (subst (λ (x : CellTree). IsWithin (reach (at s.cells handle) x) t.cells) (sym (stays (outcome outcomes handle) o))
      (λ cell found. kept cell (m.reached handle l n cell found)));
} where
  more : length t.cells ≡ length s.cells + 1
  more = ap length e ∙ length-append s.cells (c ∷ [])

  stays : (handle : ℕ) → handle ≤ length s.cells → at t.cells handle ≡ at s.cells handle
  stays handle h = ap (λ (cells : List CellTree). at cells handle) e ∙ at-push s.cells c handle h

  kept : (cell : CellTree) → Contains s.cells cell → Contains t.cells cell
  kept cell h = let P : List CellTree → Type 0 = λ cells. Contains cells cell in subst P (sym e) (Contains-append_left s.cells (c ∷ []) cell h)

  outcome-known : (handle : ℕ) → handle ≤ length s.cells → outcome outcomes handle ≤ length s.cells
  outcome-known zero h = omega arith
  outcome-known (suc i) h = m.known i (omega (arith, h, m.room, m.shelf.within))

  within : (handle : ℕ) → handle ≤ length t.cells → outcome outcomes handle ≢ 0 → handle ≤ length s.cells
  within zero h n = omega arith
  within (suc i) h n = over (below i (length s.cells) (omega (arith, h, more))) where
    over : (i < length s.cells) ⊎ (i ≡ length s.cells) → suc i ≤ length s.cells
    over (inl l) = omega arith
    over (inr f) = absurd (n (m.rest i (omega arith) (omega (arith, h, m.room, k.within, quota))))

pub memo-grown : (allows : CellTree → CellTree → Type 0) (reach : CellTree → CellTree → List CellTree) (s t : Shelf) (c : CellTree) (outcomes : List ℕ) →
    IsMemo allows reach s outcomes → IsShelf t → t.quota ≡ s.quota → IsGrown s t c → IsMemo allows reach t outcomes
memo-grown allows reach s t c outcomes m k quota (inr e) = memo-more allows reach s t c outcomes m k quota e
memo-grown allows reach s t c outcomes m k quota (inl e) =
    let same : s ≡ t = shelf-of s t (sym e) (sym quota) in
    let P : Shelf → Type 0 = λ x. IsMemo allows reach x outcomes in subst P same m where
      shelf-of : (a b : Shelf) → a.cells ≡ b.cells → a.quota ≡ b.quota → a ≡ b
      shelf-of a b f g = let make : List CellTree → ℕ → Shelf = λ c q. record { cells = c; quota = q } in ap (λ c. make c a.quota) f ∙ ap (make b.cells) g

-- a call with a result is in the memo with it
pub remembered : (s : Shelf) (outcomes : List ℕ) (call : ℕ) → length outcomes ≡ s.quota → IsShelf s → call ≤ length s.cells → outcome outcomes call ≢ 0 →
    Contains (pairs s.cells s.cells outcomes) (at s.cells call, at s.cells (outcome outcomes call))
remembered s outcomes zero r k h n = absurd (n refl)
remembered s outcomes (suc i) r k h n = pair-of_row s.cells s.cells outcomes i (omega arith) (omega (arith, h, r, k.within)) n

-- a call without one is not
pub missing : (s : Shelf) (outcomes : List ℕ) (call : ℕ) → IsShelf s → call ≤ length s.cells → outcome outcomes call ≡ 0 →
    ¬ IsRemembered (pairs s.cells s.cells outcomes) (at s.cells call)
missing s outcomes call k h z p =
    let r = row-of_pair s.cells s.cells outcomes (at s.cells call) p.0 p.1 in
    let same : suc r.0 ≡ call = k.distinct (suc r.0) call (omega (arith, r.1.0)) h r.1.3 in
    r.1.2 (ap (outcome outcomes) same ∙ z)
