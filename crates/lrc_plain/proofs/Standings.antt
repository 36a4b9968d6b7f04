-- What a store of one owner stands for.
use Rattle.std.proofs.Common.{◌≡◌, ◌≢◌, ◌⊎◌, inl, inr, ℕ, ◌<◌, ◌≤◌, List, [], ◌∷◌, ◌++◌, length, get_or, refl, sym, ◌∙◌, ap, subst, suc, arith, length-append, Option, Some, IsSome, Contains}
use Rattle.std.proofs.lemmas.List.Elements.{Contains-append_left}
use Rattle.std.proofs.lemmas.Option.{slice_get-get_or, slice_get_within, get_or_from_slice_get}
use Rattle.std.specs.Prelude.{slice_get, unwrap_or}
use Rattle.lrc_store.specs.Cells.{CellTree, nil, IsWithin}
use Rattle.lrc_store.specs.Standing.{IsSound, IsMap}
use Rattle.lrc_store.specs.Words.{Lasts, Stays, Adds, Tells, IsFullFor}
use Rattle.lrc_store.proofs.Blocks.{no_blocks-paid}
use Rattle.lrc_store.proofs.Known.{some_meant}
use Rattle.lrc_store.proofs.Lasting.{quota-same, adds-one}
use Rattle.lrc_plain.specs.Shelf.{Shelf, at, IsNamed, IsShelf}
use Rattle.lrc_plain.specs.Plain.{Plain, pairs, standing, state_of}
use Rattle.lrc_plain.proofs.RowLemmas.{at-push}
use Rattle.lrc_plain.proofs.Lists.{at-contained, named-contained, named-cases, parts-held, no_repeats, row-of_pair, pairs-push}

-- a handle stands for its place in the list
pub stands-at : (cells : List CellTree) (handle : ℕ) (c : CellTree) → handle ≤ length cells → at cells handle ≡ c → slice_get (nil ∷ cells) handle ≡ Some c
stands-at cells handle c h e = slice_get-get_or (nil ∷ cells) handle nil (omega arith) ∙ ap (λ x. Some x) e

pub at-stands : (cells : List CellTree) (handle : ℕ) (c : CellTree) → slice_get (nil ∷ cells) handle ≡ Some c → (handle ≤ length cells) × (at cells handle ≡ c)
at-stands cells handle c e = let h = slice_get_within (nil ∷ cells) handle c e in (omega arith, get_or_from_slice_get (nil ∷ cells) handle c nil e)

-- a known handle is at most the number of rows
pub known-within : (cells : List CellTree) (handle : ℕ) → IsSome (slice_get (nil ∷ cells) handle) → handle ≤ length cells
known-within cells handle h = (at-stands cells handle _ (some_meant (slice_get (nil ∷ cells) handle) h)).0

pub within-known : (cells : List CellTree) (handle : ℕ) → handle ≤ length cells → IsSome (slice_get (nil ∷ cells) handle)
within-known cells handle h = let P : Option CellTree → Type 0 = IsSome in subst P (sym (stands-at cells handle (at cells handle) h refl)) refl

-- what a known handle stands for
pub meant-at : (cells : List CellTree) (handle : ℕ) → handle ≤ length cells → unwrap_or (slice_get (nil ∷ cells) handle) nil ≡ at cells handle
meant-at cells handle h = ap (λ (o : Option CellTree). unwrap_or o nil) (stands-at cells handle (at cells handle) h refl)

memo-map : (s : Shelf) (outcomes : List ℕ) → IsShelf s → IsMap (pairs s.cells s.cells outcomes)
memo-map s outcomes k call one other f g =
    let a = row-of_pair s.cells s.cells outcomes call one f in
    let b = row-of_pair s.cells s.cells outcomes call other g in
    let same : suc a.0 ≡ suc b.0 = k.distinct (suc a.0) (suc b.0) (omega (arith, a.1.0)) (omega (arith, b.1.0)) (a.1.3 ∙ sym b.1.3) in
    let row : a.0 ≡ b.0 = omega arith in
    sym a.1.4 ∙ ap (λ i. at s.cells (get_or outcomes i 0)) row ∙ b.1.4

seen-known : (cells : List CellTree) (handle : ℕ) (c : CellTree) → slice_get (nil ∷ cells) handle ≡ Some c → c ≢ nil → Contains cells c
seen-known cells handle c e n = over (named-cases cells c (handle, (at-stands cells handle c e).0, (at-stands cells handle c e).1)) where
  over : (nil ≡ c) ⊎ Contains cells c → Contains cells c
  over (inl never) = absurd (n (sym never))
  over (inr held) = held

-- what a store of one owner stands for is sound
pub sound : (s : Shelf) (outcomes : List ℕ) (missed : ℕ) → IsShelf s → IsSound (standing s outcomes missed)
sound s outcomes missed k = let once = no_repeats s.cells (λ i j h l e. let d : suc i ≡ suc j = k.distinct (suc i) (suc j) (omega arith) (omega arith) e in omega arith) in record {
  nil_known = refl;
  finite = λ handle h. omega (arith, known-within s.cells handle h, k.limit, k.within);
  injective = λ one other c e f. let a = at-stands s.cells one c e in let b = at-stands s.cells other c f in k.distinct one other a.0 b.0 (a.1 ∙ sym b.1);
  made_held = λ c h. let n = named-contained s.cells c h in (n.0, stands-at s.cells n.0 c n.1 n.2);
  made_once = once;
  made_within = k.within;
  undrawn = λ _. refl;
  blockless = λ _. refl;
  undry = λ _. refl;
  pays_blocks = no_blocks-paid (standing s outcomes missed) once refl refl;
  uses_blocks = λ _. omega arith;
  seen_known = seen-known s.cells;
  seen_closed = λ c h. parts-held s k c (named-contained s.cells c h);
  seen_without_nil = λ h. let p = at-contained s.cells nil h in let z : suc p.0 ≡ 0 = k.distinct (suc p.0) 0 (omega (arith, p.1)) (omega arith) p.2 in omega arith;
  memo_map = memo-map s outcomes k;
  memo_seen = refl;
}

-- rows that were there, or one more
abbrev pub IsGrown : Shelf → Shelf → CellTree → Type 0
IsGrown s t c = (t.cells ≡ s.cells) ⊎ (t.cells ≡ s.cells ++ c ∷ [])

keeps : (s t : Shelf) (c : CellTree) → IsGrown s t c → (handle : ℕ) (cell : CellTree) → slice_get (nil ∷ s.cells) handle ≡ Some cell → slice_get (nil ∷ t.cells) handle ≡ Some cell
keeps s t c (inl e) handle cell h = ap (λ cells. slice_get (nil ∷ cells) handle) e ∙ h
keeps s t c (inr e) handle cell h =
    let p = at-stands s.cells handle cell h in
    ap (λ cells. slice_get (nil ∷ cells) handle) e
    ∙ stands-at (s.cells ++ c ∷ []) handle cell (omega (arith, p.0, length-append s.cells (c ∷ []))) (at-push s.cells c handle p.0 ∙ p.1)

seen-grows : (s t : Shelf) (c : CellTree) → IsGrown s t c → IsWithin s.cells t.cells
seen-grows s t c (inl e) cell h = let P : List CellTree → Type 0 = λ cells. Contains cells cell in subst P (sym e) h
seen-grows s t c (inr e) cell h = let P : List CellTree → Type 0 = λ cells. Contains cells cell in subst P (sym e) (Contains-append_left s.cells (c ∷ []) cell h)

pairs-grown : (s t : Shelf) (c : CellTree) (outcomes : List ℕ) →
    ((i : ℕ) → length s.cells ≤ i → i < length outcomes → get_or outcomes i 0 ≡ 0) →
    ((i : ℕ) → i < length outcomes → get_or outcomes i 0 ≤ length s.cells) →
    IsGrown s t c → pairs t.cells t.cells outcomes ≡ pairs s.cells s.cells outcomes
pairs-grown s t c outcomes rest known (inl e) = ap (λ cells. pairs cells cells outcomes) e
pairs-grown s t c outcomes rest known (inr e) = ap (λ cells. pairs cells cells outcomes) e ∙ pairs-push s.cells s.cells c outcomes rest known

-- what lasts, as rows are only added
lasts : (s t : Shelf) (c : CellTree) (outcomes others : List ℕ) (missed more : ℕ) → t.quota ≡ s.quota → IsShelf t → IsGrown s t c → Lasts (standing s outcomes missed) (standing t others more)
lasts s t c outcomes others missed more quota k grown = record {
  known = keeps s t c grown;
  seen = seen-grows s t c grown;
  quota = quota-same (standing s outcomes missed) (standing t others more) refl quota refl refl;
  meets = refl;
  lives = refl;
  identity = refl;
  sound = λ _. sound t others more k;
}

-- what a store stands for after a cell was put into its rows
pub adds : (s t : Shelf) (c : CellTree) (outcomes : List ℕ) (missed : ℕ) →
    ((i : ℕ) → length s.cells ≤ i → i < length outcomes → get_or outcomes i 0 ≡ 0) →
    ((i : ℕ) → i < length outcomes → get_or outcomes i 0 ≤ length s.cells) →
    t.quota ≡ s.quota → IsShelf t → IsGrown s t c → Adds (standing s outcomes missed) (standing t outcomes missed) (c ∷ [])
adds s t c outcomes missed rest known quota k grown =
    adds-one (standing s outcomes missed) (standing t outcomes missed) c (lasts s t c outcomes outcomes missed missed quota k grown) grown refl
    (ap (λ m. Some m) (pairs-grown s t c outcomes rest known grown)) refl

-- where no row is made, what is kept of calls and the misses may change
pub stays : {M : Type 0} (v now : Plain M) (others : List ℕ) (more : ℕ) → v ≡ now → IsShelf v.shelf → Stays (state_of now) (standing v.shelf others more)
stays {M} v now others more e k =
    let P : Plain M → Type 0 = λ n. Stays (state_of n) (standing v.shelf others more) in
    subst P e (record {
      lasts = lasts v.shelf v.shelf nil v.outcomes others v.missed more refl k (inl refl);
      made = refl;
      drawn = refl;
      quota = refl;
      blocks = refl;
      dry = refl;
    })

pub tells : (t : Shelf) (handle : ℕ) (c : CellTree) (outcomes : List ℕ) (missed : ℕ) → IsShelf t → handle ≤ length t.cells → at t.cells handle ≡ c →
    Tells (standing t outcomes missed) handle c
tells t handle c outcomes missed k h e = record { stands = stands-at t.cells handle c h e; seen = parts-held t k c (handle, h, e) }

pub full : (t : Shelf) (c : CellTree) (outcomes : List ℕ) (missed : ℕ) → ¬ IsNamed t.cells c → length t.cells ≡ t.quota → IsFullFor (standing t outcomes missed) c
full t c outcomes missed none used = record {
  used = used;
  unknown = λ h. none (h.0, (at-stands t.cells h.0 c h.1).0, (at-stands t.cells h.0 c h.1).1);
  unseen = λ h. none (named-contained t.cells c h);
}
