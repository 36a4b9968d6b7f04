-- Stores that grow, step by step.
use Rattle.std.proofs.Common.{◌≡◌, ℕ, List, [], ◌∷◌, subst, suc, zero, arith, Option, Some, None, Contains}
use Rattle.std.proofs.lemmas.List.Elements.{Contains-append_left, Contains-append_right}
use Rattle.std.proofs.lemmas.Bool.{false≢true}
use Rattle.std.specs.Prelude.{Result, Ok, Err, IsErr}
use Rattle.lrc_store.specs.Cells.{CellTree, nil, pair, parts, IsWithin, HoldsParts}
use Rattle.lrc_store.specs.Standing.{Standing, Stands, meant, Told}
use Rattle.lrc_store.specs.Words.{Adds, Puts, Tells}
use Rattle.lrc_store.specs.declared.cells.Handle.{Handle}
use Rattle.lrc_store.specs.declared.stores.Full.{Full}
use Rattle.lrc_store.proofs.Known.{stands-meant}
use Rattle.lrc_store.proofs.Lasting.{adds-then, adds-more, lacks-more}
use Rattle.lrc_code.specs.Building.{Builds}

-- the parts of a pair's sides are parts of it
pub left-within : (tag : ℕ) (left right : CellTree) → IsWithin (parts left) (parts (pair tag left right))
left-within tag left right c h = let p = Contains-append_left (parts left) (parts right) c h in (suc p.0, omega (arith, p.1), p.2)

pub right-within : (tag : ℕ) (left right : CellTree) → IsWithin (parts right) (parts (pair tag left right))
right-within tag left right c h = let p = Contains-append_right (parts left) (parts right) c h in (suc p.0, omega (arith, p.1), p.2)

-- what is in a list of one cell is in each list that has the cell
only : (c : CellTree) (xs : List CellTree) → Contains xs c → IsWithin (c ∷ []) xs
only c xs own part (zero, h, e) = subst (λ (x : CellTree). Contains xs x) e own
only c xs own part (suc i, h, e) = absurd (omega (arith, h))

-- a part is built, and then the whole
adds-part : (s t u : Standing) (part whole : CellTree) → IsWithin (parts part) (parts whole) → Adds s t (parts part) → Adds t u (parts whole) → Adds s u (parts whole)
adds-part s t u part whole w f g = adds-then s t u (parts whole) (adds-more s t (parts part) (parts whole) w f) g

-- a cell that is put is built, where it is a part of itself
pub puts-builds : (s t : Standing) (c : CellTree) (answer : Result Handle Full) → Contains (parts c) c → Puts s t c answer → Builds s t c answer
puts-builds s t c (Ok handle) own p = record { adds = adds-more s t (c ∷ []) (parts c) (only c (parts c) own) p.adds; ok = p.ok; full = tt }
puts-builds s t c (Err e) own p = record { adds = adds-more s t (c ∷ []) (parts c) (only c (parts c) own) p.adds; ok = tt; full = (c, own, p.full) }

pub builds-then : (s t u : Standing) (a c : CellTree) (answer : Result Handle Full) → IsWithin (parts a) (parts c) → Adds s t (parts a) → Builds t u c answer → Builds s u c answer
builds-then s t u a c answer w f g = record { adds = adds-part s t u a c w f g.adds; ok = g.ok; full = g.full }

-- where a part can't be built, the whole can't
pub builds-stopped : (s t : Standing) (a c : CellTree) (e : Full) (answer : Result Handle Full) → IsWithin (parts a) (parts c) → IsErr answer → Builds s t a (Err e) → Builds s t c answer
builds-stopped s t a c e (Ok handle) w h b = absurd (false≢true h)
builds-stopped s t a c e (Err f) w h b = record { adds = adds-more s t (parts a) (parts c) w b.adds; ok = tt; full = lacks-more t (parts a) (parts c) w b.full }

-- one cell under two descriptions
pub builds-as : (s t : Standing) (a c : CellTree) (answer : Result Handle Full) → a ≡ c → Builds s t a answer → Builds s t c answer
builds-as s t a c answer e b = let P : CellTree → Type 0 = λ x. Builds s t x answer in subst P e b

pub same-pair : (tag : ℕ) (a b c d : CellTree) → a ≡ c → b ≡ d → pair tag a b ≡ pair tag c d
same-pair tag a b c d e f = cc

-- a pair over sides that were known or made before
pub pair-then : (s t u : Standing) (tag l r : ℕ) (left right a : CellTree) (first answer : Result Handle Full) →
    meant t l ≡ left → meant t r ≡ right → IsWithin (parts a) (parts (pair tag left right)) → Builds s t a first →
    Builds t u (pair tag (meant t l) (meant t r)) answer → Builds s u (pair tag left right) answer
pair-then s t u tag l r left right a first answer e f w k b =
    builds-then s t u a (pair tag left right) answer w k.adds (builds-as t u (pair tag (meant t l) (meant t r)) (pair tag left right) answer (same-pair tag _ _ _ _ e f) b)

-- nil is told everywhere
pub nil-told : (s : Standing) → Stands s 0 nil → Tells s 0 nil
nil-told s h = record { stands = h; seen = over s.seen } where
  over : (o : Option (List CellTree)) → Told o (λ seen. HoldsParts seen nil)
  over None = tt
  over (Some seen) = λ part never. absurd (omega (arith, never.1))

-- a pair whose left side was just built, and whose right side was there
pub linked : (s t u : Standing) (tag : ℕ) (l : Handle) (r : ℕ) (item rest : CellTree) (answer : Result Handle Full) →
    Stands s r rest → Builds s t item (Ok l) → Builds t u (pair tag (meant t l.0) (meant t r)) answer → Builds s u (pair tag item rest) answer
linked s t u tag l r item rest answer k b g =
    pair-then s t u tag l.0 r item rest item (Ok l) answer (stands-meant t l.0 item b.ok.stands) (stands-meant t r rest (b.adds.gains.lasts.known r rest k)) (left-within tag item rest) b g

-- a part of a whole is added
pub adds-behind : (o s u : Standing) (part whole : CellTree) (answer : Result Handle Full) →
    IsWithin (parts part) (parts whole) → Adds o s (parts whole) → Builds s u part answer → Adds o u (parts whole)
adds-behind o s u part whole answer w f b = adds-then o s u (parts whole) f (adds-more s u (parts part) (parts whole) w b.adds)

-- a part of a whole can't be built
pub more-stopped : (o s t : Standing) (part whole : CellTree) (e : Full) (answer : Result Handle Full) →
    IsWithin (parts part) (parts whole) → Adds o s (parts whole) → IsErr answer → Builds s t part (Err e) → Builds o t whole answer
more-stopped o s t part whole e answer w f h b = builds-then o s t whole whole answer (λ _ k. k) f (builds-stopped s t part whole e answer w h b)

-- the whole is there
pub built : (o s : Standing) (part whole : CellTree) (handle : Handle) → part ≡ whole → Adds o s (parts whole) → Tells s handle.0 part → Builds o s whole (Ok handle)
built o s part whole handle e f k = record { adds = f; ok = (let P : CellTree → Type 0 = Tells s handle.0 in subst P e k); full = tt }

pub tells-as : (s : Standing) (handle : ℕ) (a c : CellTree) → a ≡ c → Tells s handle a → Tells s handle c
tells-as s handle a c e k = let P : CellTree → Type 0 = Tells s handle in subst P e k
