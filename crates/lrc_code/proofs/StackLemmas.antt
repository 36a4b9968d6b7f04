-- Handles on a stack: the cells that they tell, the last of them, and the list of the last ones.
use Rattle.std.proofs.Common.{◌≡◌, ℕ, zero, suc, ◌+◌, ◌-◌, ◌<◌, ◌≤◌, List, [], ◌∷◌, ◌++◌, length, map, take, drop, refl, sym, ◌∙◌, ap, subst, arith, Option, Some, None}
use Rattle.std.specs.Prelude.{Result}
use Rattle.std.proofs.lemmas.List.{length-map, take_all, drop-drop}
use Rattle.lrc_store.specs.Cells.{CellTree, parts, IsWithin, HoldsParts}
use Rattle.lrc_store.specs.Standing.{Standing, IsKnown, meant, Told}
use Rattle.lrc_store.specs.Words.{Lasts, Grows, Tells}
use Rattle.lrc_store.specs.declared.cells.Handle.{Handle}
use Rattle.lrc_store.specs.declared.stores.Full.{Full}
use Rattle.lrc_store.proofs.Known.{stands-known, stands-meant, kept-meant, known-stands}
use Rattle.lrc_code.specs.Forms.{more_cell, list_cell}
use Rattle.lrc_code.specs.Stack.{last_of, all_but, AreKnown, meant_each}
use Rattle.lrc_code.specs.Building.{Builds}
use Rattle.lrc_code.proofs.Growing.{right-within, builds-as, same-pair}

-- ---- lists

map-drop : {A B : Type 0} (f : A → B) (n : ℕ) (xs : List A) → map f (drop n xs) ≡ drop n (map f xs)
map-drop f zero xs = refl
map-drop f (suc n) [] = refl
map-drop f (suc n) (x ∷ xs) = map-drop f n xs

pub map-last_of : {A B : Type 0} (f : A → B) (n : ℕ) (xs : List A) → map f (last_of n xs) ≡ last_of n (map f xs)
map-last_of f n xs = map-drop f (length xs - n) xs ∙ ap (λ m. drop (m - n) (map f xs)) (sym (length-map xs f))

past : {A : Type 0} (n : ℕ) (xs : List A) → length xs ≤ n → drop n xs ≡ []
past zero [] h = refl
past zero (x ∷ xs) h = absurd (omega arith)
past (suc n) [] h = refl
past (suc n) (x ∷ xs) h = past n xs (omega arith)

pub last_none : {A : Type 0} (xs : List A) → last_of 0 xs ≡ []
last_none xs = past (length xs - 0) xs (omega arith)

pub all_but_none : {A : Type 0} (xs : List A) → all_but 0 xs ≡ xs
all_but_none xs = take_all (length xs - 0) xs (omega arith)

no_end : {A : Type 0} (xs : List A) (x : A) → [] ≡ xs ++ x ∷ [] → ⊥
no_end [] x e = absurd (cc)
no_end (y ∷ ys) x e = absurd (cc)

more_there : {A : Type 0} (n : ℕ) (x y : A) (ys : List A) → n < length ys → y ∷ take (suc n) ys ≡ x ∷ [] → ⊥
more_there n x y [] h e = absurd (omega arith)
more_there n x y (z ∷ zs) h e = absurd (cc)

-- what was taken before the last of the first ones, and what stands behind
taken : {A : Type 0} (n : ℕ) (xs front : List A) (x : A) → n < length xs → take (suc n) xs ≡ front ++ x ∷ [] → (front ≡ take n xs) × (drop n xs ≡ x ∷ drop (suc n) xs)
taken n [] front x h e = absurd (omega arith)
taken zero (y ∷ ys) [] x h e = (refl, cc)
taken zero (y ∷ ys) (z ∷ zs) x h e = let rest : [] ≡ zs ++ x ∷ [] = cc in absurd (no_end zs x rest)
taken (suc n) (y ∷ ys) [] x h e = absurd (more_there n x y ys (omega arith) e)
taken (suc n) (y ∷ ys) (z ∷ zs) x h e =
    let rest : take (suc n) ys ≡ zs ++ x ∷ [] = cc in
    let first : z ≡ y = cc in
    let ih = taken n ys zs x (omega arith) rest in
    (ap (λ u. u ∷ zs) first ∙ ap (λ us. y ∷ us) ih.0, ih.1)

-- one more of the last ones is taken off
pub next_taken : {A : Type 0} (n : ℕ) (xs held front : List A) (x : A) → n < length xs → held ≡ all_but n xs → held ≡ front ++ x ∷ [] →
    (front ≡ all_but (n + 1) xs) × (last_of (n + 1) xs ≡ x ∷ last_of n xs)
next_taken n xs held front x h is e =
    let m = length xs - (n + 1) in
    let next : length xs - n ≡ suc m = omega arith in
    let both = taken m xs front x (omega arith) (sym (is ∙ ap (λ k. take k xs) next) ∙ e) in
    (both.0, both.1 ∙ ap (λ k. x ∷ drop k xs) (sym next))

-- ---- known handles

drop-known : (s : Standing) (n : ℕ) (handles : List Handle) → AreKnown s handles → AreKnown s (drop n handles)
drop-known s zero handles h = h
drop-known s (suc n) [] h = tt
drop-known s (suc n) (handle ∷ handles) h = drop-known s n handles h.1

pub last-known : (s : Standing) (n : ℕ) (held : List Handle) (last : Handle) → AreKnown s held → last_of (n + 1) held ≡ last ∷ last_of n held → IsKnown s last.0
last-known s n held last h e = (subst (AreKnown s) e (drop-known s (length held - (n + 1)) held h)).0

pub known-later : (s t : Standing) (handle : ℕ) → Lasts s t → IsKnown s handle → IsKnown t handle
known-later s t handle lasts h = stands-known t handle (meant s handle) (lasts.known handle (meant s handle) (known-stands s handle h))

pub same-later : (s t : Standing) (handle : ℕ) → Lasts s t → IsKnown s handle → meant t handle ≡ meant s handle
same-later s t handle lasts h = kept-meant s t handle lasts.known h

-- ---- the list of the last ones

-- with one more it is a longer list
pub list-more : (s : Standing) (n : ℕ) (held : List Handle) (last : Handle) → last_of (n + 1) held ≡ last ∷ last_of n held →
    list_cell (last_of (n + 1) (meant_each s held)) ≡ more_cell (meant s last.0) (list_cell (last_of n (meant_each s held)))
list-more s n held last e =
    let f : Handle → CellTree = λ handle. meant s handle.0 in
    ap list_cell (sym (map-last_of f (n + 1) held) ∙ ap (map f) e ∙ ap (λ cells. meant s last.0 ∷ cells) (map-last_of f n held))

dropped-within : (n : ℕ) (cells : List CellTree) → IsWithin (parts (list_cell (drop n cells))) (parts (list_cell cells))
dropped-within zero cells part h = h
dropped-within (suc n) [] part h = h
dropped-within (suc n) (cell ∷ cells) part h = right-within 4 cell (list_cell cells) part (dropped-within n cells part h)

-- the list of fewer is a part of that of more
pub fewer-within : (s : Standing) (n m : ℕ) (held : List Handle) → n ≤ m → m ≤ length held → IsWithin (parts (list_cell (last_of n (meant_each s held)))) (parts (list_cell (last_of m (meant_each s held))))
fewer-within s n m held h k =
    let cells = meant_each s held in
    let many = length-map held (λ (handle : Handle). meant s handle.0) in
    let far : length cells - m + (m - n) ≡ length cells - n = omega arith in
    let same = drop-drop (m - n) (length cells - m) cells ∙ ap (λ j. drop j cells) far in
    subst (λ (some : List CellTree). IsWithin (parts (list_cell some)) (parts (list_cell (last_of m cells)))) same (dropped-within (m - n) (last_of m cells))

-- the list with one more is built over that of fewer
pub list-next : (o s u : Standing) (n : ℕ) (held : List Handle) (last list : Handle) (answer : Result Handle Full) → AreKnown o held → Lasts o s → last_of (n + 1) held ≡ last ∷ last_of n held →
    Tells s list.0 (list_cell (last_of n (meant_each o held))) → Builds s u (more_cell (meant s last.0) (meant s list.0)) answer → Builds s u (list_cell (last_of (n + 1) (meant_each o held))) answer
list-next o s u n held last list answer known lasts e tells b =
    let fewer = list_cell (last_of n (meant_each o held)) in
    builds-as s u (more_cell (meant s last.0) (meant s list.0)) (list_cell (last_of (n + 1) (meant_each o held))) answer
    (same-pair 4 (meant s last.0) (meant s list.0) (meant o last.0) fewer (same-later o s last.0 lasts (last-known o n held last known e)) (stands-meant s list.0 fewer tells.stands) ∙ sym (list-more o n held last e)) b

-- ---- handles that tell cells

-- each handle tells its cell
abbrev pub AreTold : Standing → List Handle → List CellTree → Type 0
AreTold s [] [] = Unit {0}
AreTold s [] (cell ∷ cells) = ⊥
AreTold s (handle ∷ handles) [] = ⊥
AreTold s (handle ∷ handles) (cell ∷ cells) = Tells s handle.0 cell × AreTold s handles cells

pub told-known : (s : Standing) (handles : List Handle) (cells : List CellTree) → AreTold s handles cells → AreKnown s handles
told-known s [] [] h = tt
told-known s [] (cell ∷ cells) h = absurd h
told-known s (handle ∷ handles) [] h = absurd h
told-known s (handle ∷ handles) (cell ∷ cells) h = (stands-known s handle.0 cell h.0.stands, told-known s handles cells h.1)

pub told-meant : (s : Standing) (handles : List Handle) (cells : List CellTree) → AreTold s handles cells → meant_each s handles ≡ cells
told-meant s [] [] h = refl
told-meant s [] (cell ∷ cells) h = absurd h
told-meant s (handle ∷ handles) [] h = absurd h
told-meant s (handle ∷ handles) (cell ∷ cells) h =
    ap (λ x. x ∷ meant_each s handles) (stands-meant s handle.0 cell h.0.stands) ∙ ap (λ xs. cell ∷ xs) (told-meant s handles cells h.1)

pub told-none : (s : Standing) (handles : List Handle) (cells : List CellTree) → handles ≡ [] → cells ≡ [] → AreTold s handles cells
told-none s handles cells e f = subst (λ (cs : List CellTree). AreTold s handles cs) (sym f) (subst (λ (hs : List Handle). AreTold s hs []) (sym e) tt)

pub told-length : (s : Standing) (handles : List Handle) (cells : List CellTree) → AreTold s handles cells → length handles ≡ length cells
told-length s handles cells h = sym (length-map handles (λ (handle : Handle). meant s handle.0)) ∙ ap length (told-meant s handles cells h)

held-later : (before after : Option (List CellTree)) (cell : CellTree) → Grows before after → Told before (λ seen. HoldsParts seen cell) → Told after (λ seen. HoldsParts seen cell)
held-later None None cell g h = tt
held-later None (Some after) cell g h = absurd g
held-later (Some before) None cell g h = absurd g
held-later (Some before) (Some after) cell g h = λ part own. g part (h part own)

tells-later : (s t : Standing) (handle : ℕ) (cell : CellTree) → Lasts s t → Tells s handle cell → Tells t handle cell
tells-later s t handle cell lasts h = record { stands = lasts.known handle cell h.stands; seen = held-later s.seen t.seen cell lasts.seen h.seen }

pub told-later : (s t : Standing) (handles : List Handle) (cells : List CellTree) → Lasts s t → AreTold s handles cells → AreTold t handles cells
told-later s t [] [] lasts h = tt
told-later s t [] (cell ∷ cells) lasts h = absurd h
told-later s t (handle ∷ handles) [] lasts h = absurd h
told-later s t (handle ∷ handles) (cell ∷ cells) lasts h = (tells-later s t handle.0 cell lasts h.0, told-later s t handles cells lasts h.1)

told-taken : (s : Standing) (n : ℕ) (handles : List Handle) (cells : List CellTree) → AreTold s handles cells → AreTold s (take n handles) (take n cells)
told-taken s zero handles cells h = tt
told-taken s (suc n) [] [] h = tt
told-taken s (suc n) [] (cell ∷ cells) h = absurd h
told-taken s (suc n) (handle ∷ handles) [] h = absurd h
told-taken s (suc n) (handle ∷ handles) (cell ∷ cells) h = (h.0, told-taken s n handles cells h.1)

told-pushed : (s : Standing) (handles : List Handle) (cells : List CellTree) (handle : Handle) (cell : CellTree) → AreTold s handles cells → Tells s handle.0 cell → AreTold s (handles ++ handle ∷ []) (cells ++ cell ∷ [])
told-pushed s [] [] handle cell h k = (k, tt)
told-pushed s [] (c ∷ cells) handle cell h k = absurd h
told-pushed s (x ∷ handles) [] handle cell h k = absurd h
told-pushed s (x ∷ handles) (c ∷ cells) handle cell h k = (h.0, told-pushed s handles cells handle cell h.1 k)

-- a handle takes the place of the last ones
pub told-next : (s t : Standing) (n : ℕ) (held next : List Handle) (cells : List CellTree) (handle : Handle) (cell : CellTree) → Lasts s t → AreTold s held cells → Tells t handle.0 cell →
    next ≡ all_but n held ++ handle ∷ [] → AreTold t next (all_but n cells ++ cell ∷ [])
told-next s t n held next cells handle cell lasts h k e =
    let many = told-length s held cells h in
    let front = subst (λ m. AreTold t (all_but n held) (take (m - n) cells)) many (told-taken t (length held - n) held cells (told-later s t held cells lasts h)) in
    subst (λ (hs : List Handle). AreTold t hs (all_but n cells ++ cell ∷ [])) (sym e) (told-pushed t (all_but n held) (all_but n cells) handle cell front k)

-- the last of one handle
pub told-one : (s : Standing) (held front : List Handle) (handle : Handle) (cell : CellTree) → AreTold s held (cell ∷ []) → held ≡ front ++ handle ∷ [] → Tells s handle.0 cell
told-one s [] front handle cell h e = absurd h
told-one s (one ∷ other ∷ more) front handle cell h e = absurd h.1
told-one s (one ∷ []) [] handle cell h e = let same : one ≡ handle = cc in subst (λ (x : Handle). Tells s x.0 cell) same h.0
told-one s (one ∷ []) (x ∷ []) handle cell h e = absurd (cc)
told-one s (one ∷ []) (x ∷ y ∷ front) handle cell h e = absurd (cc)
