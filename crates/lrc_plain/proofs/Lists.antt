-- Lists of cells by place, and the pairs of calls and results.
use Rattle.std.proofs.Common.{◌≡◌, ◌≢◌, ◌⊎◌, inl, inr, ℕ, ◌<◌, ◌≤◌, List, [], ◌∷◌, ◌++◌, length, get_or, refl, sym, ◌∙◌, ap, subst, suc, zero, arith, Contains}
use Rattle.std.proofs.lemmas.List.{get_or_default}
use Rattle.std.proofs.lemmas.List.Elements.{Contains-append_cases}
use Rattle.lrc_store.specs.Cells.{CellTree, nil, number, pair, parts, HoldsParts}
use Rattle.lrc_store.specs.Standing.{HasNoRepeats}
use Rattle.lrc_plain.specs.Shelf.{Shelf, at, IsNamed, HasSides, IsShelf}
use Rattle.lrc_plain.specs.Plain.{pairs, outcome}
use Rattle.lrc_plain.proofs.RowLemmas.{at-push}

pub contains-at : (cells : List CellTree) (i : ℕ) (c : CellTree) → i < length cells → at cells (suc i) ≡ c → Contains cells c
contains-at cells i c h e = (i, h, get_or_default cells i c nil h ∙ e)

pub at-contained : (cells : List CellTree) (c : CellTree) → Contains cells c → (i : ℕ) × (i < length cells) × (at cells (suc i) ≡ c)
at-contained cells c (i, h, e) = (i, h, get_or_default cells i nil c h ∙ e)

-- a named cell is nil or in the list
pub named-cases : (cells : List CellTree) (c : CellTree) → IsNamed cells c → (nil ≡ c) ⊎ Contains cells c
named-cases cells c (zero, h, e) = inl e
named-cases cells c (suc i, h, e) = inr (contains-at cells i c (omega arith) e)

-- the sides of a cell in a row are nil or in a row
pub sides-at : (s : Shelf) → IsShelf s → (c : CellTree) → Contains s.cells c → HasSides s.cells c
sides-at s k c h = let p = at-contained s.cells c h in let P : CellTree → Type 0 = HasSides s.cells in subst P p.2 (k.sides p.0 p.1)

-- the rows hold all parts of a cell that has a handle
pub parts-held : (s : Shelf) → IsShelf s → (c : CellTree) → IsNamed s.cells c → HoldsParts s.cells c
parts-held s k nil n part (i, h, e) = absurd (omega arith)
parts-held s k (number v) n part (zero, h, e) = only (named-cases s.cells (number v) n) where
  only : (nil ≡ number v) ⊎ Contains s.cells (number v) → Contains s.cells part
  only (inl never) = cc
  only (inr held) = let P : CellTree → Type 0 = Contains s.cells in subst P e held
parts-held s k (number v) n part (suc i, h, e) = absurd (omega arith)
parts-held s k (pair tag left right) n part found =
    over (named-cases s.cells (pair tag left right) n) found (λ side. parts-held s k left side part) (λ side. parts-held s k right side part) where
      behind : HasSides s.cells (pair tag left right) → Contains (parts left) part ⊎ Contains (parts right) part →
          (IsNamed s.cells left → Contains (parts left) part → Contains s.cells part) → (IsNamed s.cells right → Contains (parts right) part → Contains s.cells part) →
          Contains s.cells part
      behind sides (inl l) lefts rights = lefts sides.0 l
      behind sides (inr r) lefts rights = rights sides.1 r

      over : (nil ≡ pair tag left right) ⊎ Contains s.cells (pair tag left right) → Contains (parts (pair tag left right)) part →
          (IsNamed s.cells left → Contains (parts left) part → Contains s.cells part) → (IsNamed s.cells right → Contains (parts right) part → Contains s.cells part) →
          Contains s.cells part
      over (inl never) f lefts rights = cc
      over (inr held) (zero, h, e) lefts rights = let P : CellTree → Type 0 = Contains s.cells in subst P e held
      over (inr held) (suc i, h, e) lefts rights = behind (sides-at s k (pair tag left right) held) (Contains-append_cases (parts left) (parts right) part (i, omega (arith, h), e)) lefts rights

pub named-contained : (cells : List CellTree) (c : CellTree) → Contains cells c → IsNamed cells c
named-contained cells c h = let p = at-contained cells c h in (suc p.0, omega (arith, p.1), p.2)

-- what differs by place has no repeats
pub no_repeats : (cells : List CellTree) → ((i j : ℕ) → i < length cells → j < length cells → get_or cells i nil ≡ get_or cells j nil → i ≡ j) → HasNoRepeats cells
no_repeats [] d = tt
no_repeats (c ∷ cells) d = (λ found. let p = at-contained cells c found in absurd (clash p.0 p.1 p.2), no_repeats cells (λ i j h l e. let s : suc i ≡ suc j = d (suc i) (suc j) (omega arith) (omega arith) e in omega arith)) where
  clash : (i : ℕ) → i < length cells → at cells (suc i) ≡ c → ⊥
  clash i h e = let z : 0 ≡ suc i = d 0 (suc i) (omega arith) (omega arith) (sym e) in omega arith

-- a pair is that of some row
abbrev pub IsOfRow : List CellTree → List CellTree → List ℕ → CellTree → CellTree → ℕ → Type 0
IsOfRow all cells outcomes call outcome i =
    (i < length cells) × (i < length outcomes) × (get_or outcomes i 0 ≢ 0) × (get_or cells i nil ≡ call) × (at all (get_or outcomes i 0) ≡ outcome)

same_pair : (a b c d : CellTree) → (let p : CellTree × CellTree = (a, b) in let q : CellTree × CellTree = (c, d) in p ≡ q) → (a ≡ c) × (b ≡ d)
same_pair a b c d e = (ap (λ (p : CellTree × CellTree). p.0) e, ap (λ (p : CellTree × CellTree). p.1) e)

pub row-of_pair : (all cells : List CellTree) (outcomes : List ℕ) (call outcome : CellTree) → Contains (pairs all cells outcomes) (call, outcome) →
    (i : ℕ) × IsOfRow all cells outcomes call outcome i
row-of_pair all [] outcomes call outcome (k, h, e) = absurd (omega arith)
row-of_pair all (c ∷ cells) [] call outcome (k, h, e) = absurd (omega arith)
row-of_pair all (c ∷ cells) (zero ∷ outcomes) call outcome found =
    let r = row-of_pair all cells outcomes call outcome found in
    (suc r.0, (omega (arith, r.1.0), omega (arith, r.1.1), r.1.2, r.1.3, r.1.4))
row-of_pair all (c ∷ cells) (suc handle ∷ outcomes) call outcome (zero, h, e) =
    let s = same_pair _ _ _ _ e in (0, (omega arith, omega arith, (λ z. omega (arith, z)), s.0, s.1))
row-of_pair all (c ∷ cells) (suc handle ∷ outcomes) call outcome (suc k, h, e) =
    let r = row-of_pair all cells outcomes call outcome (k, omega (arith, h), e) in
    (suc r.0, (omega (arith, r.1.0), omega (arith, r.1.1), r.1.2, r.1.3, r.1.4))

pub pair-of_row : (all cells : List CellTree) (outcomes : List ℕ) (i : ℕ) → i < length cells → i < length outcomes → get_or outcomes i 0 ≢ 0 →
    Contains (pairs all cells outcomes) (get_or cells i nil, at all (get_or outcomes i 0))
pair-of_row all [] outcomes i h l n = absurd (omega arith)
pair-of_row all (c ∷ cells) [] i h l n = absurd (omega arith)
pair-of_row all (c ∷ cells) (zero ∷ outcomes) zero h l n = absurd (n refl)
pair-of_row all (c ∷ cells) (zero ∷ outcomes) (suc i) h l n = pair-of_row all cells outcomes i (omega arith) (omega arith) n
pair-of_row all (c ∷ cells) (suc handle ∷ outcomes) zero h l n = (0, omega arith, refl)
pair-of_row all (c ∷ cells) (suc handle ∷ outcomes) (suc i) h l n =
    let r = pair-of_row all cells outcomes i (omega arith) (omega arith) n in (suc r.0, omega (arith, r.1), r.2)

cons_pair : (call a b : CellTree) (xs ys : List (CellTree × CellTree)) → a ≡ b → xs ≡ ys →
    (let p : CellTree × CellTree = (call, a) in let q : CellTree × CellTree = (call, b) in p ∷ xs ≡ q ∷ ys)
cons_pair call a b xs ys e f = cc

-- a row more adds no pair
pub pairs-push : (all cells : List CellTree) (more : CellTree) (outcomes : List ℕ) →
    ((i : ℕ) → length cells ≤ i → i < length outcomes → get_or outcomes i 0 ≡ 0) →
    ((i : ℕ) → i < length outcomes → get_or outcomes i 0 ≤ length all) →
    pairs (all ++ more ∷ []) (cells ++ more ∷ []) outcomes ≡ pairs all cells outcomes
pairs-push all [] more [] rest known = refl
pairs-push all [] more (zero ∷ outcomes) rest known = refl
pairs-push all [] more (suc handle ∷ outcomes) rest known = let z : suc handle ≡ 0 = rest 0 (omega arith) (omega arith) in absurd (omega arith)
pairs-push all (c ∷ cells) more [] rest known = refl
pairs-push all (c ∷ cells) more (zero ∷ outcomes) rest known =
    pairs-push all cells more outcomes (λ i h l. rest (suc i) (omega arith) (omega arith)) (λ i l. known (suc i) (omega arith))
pairs-push all (c ∷ cells) more (suc handle ∷ outcomes) rest known =
    cons_pair c _ _ _ _ (at-push all more (suc handle) (known 0 (omega arith)))
    (pairs-push all cells more outcomes (λ i h l. rest (suc i) (omega arith) (omega arith)) (λ i l. known (suc i) (omega arith)))
