-- Handles of numbers in a store that goes on.
use Rattle.std.proofs.Common.{ℤ, ℕ, ◌≡◌, ◌≢◌, ◌<◌, ◌∙◌, ap, refl, sym, subst, ⊎_elim, arith, length, get_or}
use Rattle.std.proofs.lemmas.List.Elements.{Contains-append_cases, Contains-get_or}
use Rattle.std.specs.Prelude.{List, [], ◌∷◌, ◌++◌, Contains, IsSome, Option, unwrap_or}
use Rattle.lrc_store.specs.Cells.{CellTree, nil, number}
use Rattle.lrc_store.specs.Standing.{Standing, Stands, IsKnown, meant}
use Rattle.lrc_store.specs.Words.{Keeps}
use Rattle.lrc_store.specs.declared.cells.Handle.{Handle}
use Rattle.bench_table.specs.Numbers.{AreNumbers}

pub stay : (s t : Standing) (handles : List Handle) → Keeps s t → AreNumbers s handles → AreNumbers t handles
stay s t handles k h handle c = let n = h handle c in (n.0, k handle.0 (number n.0) n.1)

-- the handle at a place
abbrev pub at : List Handle → ℕ → Handle
at handles i = get_or handles i (record { 0 = 0 })

number_at : (s : Standing) (handles : List Handle) (i : ℕ) → AreNumbers s handles → i < length handles → (n : ℤ) × Stands s (at handles i).0 (number n)
number_at s handles i h small = h (at handles i) (Contains-get_or handles i (record { 0 = 0 }) small)

pub known_at : (s : Standing) (handles : List Handle) (i : ℕ) → AreNumbers s handles → i < length handles → IsKnown s (at handles i).0
known_at s handles i h small = subst (λ (o : Option CellTree). IsSome o) (sym (number_at s handles i h small).1) refl

-- a number is remembered as itself
itself : (c : CellTree) (n : ℤ) → c ≡ number n → (c ≡ c) × (c ≢ nil)
itself c n h = (refl, λ e. cc)

pub itself_at : (s : Standing) (handles : List Handle) (i : ℕ) → AreNumbers s handles → i < length handles → (meant s (at handles i).0 ≡ meant s (at handles i).0) × (meant s (at handles i).0 ≢ nil)
itself_at s handles i h small = let n = number_at s handles i h small in itself _ n.0 (ap (λ (o : Option CellTree). unwrap_or o nil) n.1)

only : (handle x : Handle) → Contains (handle ∷ []) x → handle ≡ x
only handle x (i, small, e) = let z : i ≡ 0 = omega (arith, small) in ap (λ k. get_or (handle ∷ []) k x) (sym z) ∙ e

pub behind : (s t : Standing) (handles : List Handle) (handle : Handle) (n : ℤ) → Keeps s t → AreNumbers s handles → Stands t handle.0 (number n) → AreNumbers t (handles ++ handle ∷ [])
behind s t handles handle n k h last other c =
    ⊎_elim (λ a. stay s t handles k h other a) (λ b. (n, subst (λ (x : Handle). Stands t x.0 (number n)) (only handle other b) last)) (Contains-append_cases handles (handle ∷ []) other c)
