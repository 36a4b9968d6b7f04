-- Rows of cells, and one row more.
use Rattle.std.proofs.Common.{◌≡◌, ◌⊎◌, inl, inr, ℕ, ◌<◌, ◌≤◌, ◌^◌, List, [], ◌∷◌, ◌++◌, length, refl, sym, ◌∙◌, ap, subst, suc, zero, arith, length-append}
use Rattle.std.proofs.Math.ListN.{get_or-append}
use Rattle.std.proofs.Math.Seq.{get_or-append_seam}
use Rattle.lrc_store.specs.Cells.{CellTree, nil, number, pair}
use Rattle.lrc_store.specs.declared.cells.Cell.{Cell}
use Rattle.lrc_store.specs.declared.cells.Cell.TheVariants as cell
use Rattle.lrc_store.specs.declared.cells.Handle.{Handle}
use Rattle.lrc_plain.specs.declared.chains.Row.{Row}
use Rattle.lrc_plain.specs.Chains.{row_at, IsAt}
use Rattle.lrc_plain.specs.Shelf.{Shelf, at, IsNamed, HasSides, IsShelf}
use Rattle.lrc_plain.specs.Rows.{whole, IsFor, IsOver, cells_from, IsKept}

-- one row more adds its cell
pub cells_from-push : (cells : List CellTree) (rows : List Row) (row : Row) →
    cells_from cells (rows ++ row ∷ []) ≡ cells_from cells rows ++ whole (cells_from cells rows) row.cell ∷ []
cells_from-push cells [] row = refl
cells_from-push cells (first ∷ rows) row = cells_from-push (cells ++ whole cells first.cell ∷ []) rows row

-- a handle stands for the same after a row more
pub at-push : (cells : List CellTree) (more : CellTree) (handle : ℕ) → handle ≤ length cells → at (cells ++ more ∷ []) handle ≡ at cells handle
at-push cells more zero h = refl
at-push cells more (suc i) h = get_or-append cells (more ∷ []) nil i (omega arith)

-- the last handle stands for the last cell
pub at-last : (cells : List CellTree) (more : CellTree) → at (cells ++ more ∷ []) (suc (length cells)) ≡ more
at-last cells more = get_or-append_seam cells more [] nil

pub pair_of : (tag : ℕ) (a b c d : CellTree) → a ≡ b → c ≡ d → pair tag a c ≡ pair tag b d
pair_of tag a b c d e f = cc

-- a form over known handles keeps its cell after a row more
pub whole-push : (cells : List CellTree) (more : CellTree) (form : Cell) → IsOver (length cells) form → whole (cells ++ more ∷ []) form ≡ whole cells form
whole-push cells more cell.Nil h = refl
whole-push cells more (cell.Number value) h = refl
whole-push cells more (cell.Pair tag left right) h = pair_of tag _ _ _ _ (at-push cells more left.0 h.0) (at-push cells more right.0 h.1)

pub IsOver-from_IsFor : (i n : ℕ) (form : Cell) → i ≤ n → IsFor i form → IsOver n form
IsOver-from_IsFor i n cell.Nil l h = absurd h
IsOver-from_IsFor i n (cell.Number value) l h = tt
IsOver-from_IsFor i n (cell.Pair tag left right) l h = (omega (arith, h.0), omega (arith, h.1))

pub IsFor-wider : (i n : ℕ) (form : Cell) → i ≤ n → IsFor i form → IsFor n form
IsFor-wider i n cell.Nil l h = absurd h
IsFor-wider i n (cell.Number value) l h = tt
IsFor-wider i n (cell.Pair tag left right) l h = (omega (arith, h.0), omega (arith, h.1))

-- handles stand for different cells
abbrev pub IsInjective : List CellTree → Type 0
IsInjective cells = (i j : ℕ) → i ≤ length cells → j ≤ length cells → at cells i ≡ at cells j → i ≡ j

left_of : CellTree → CellTree
left_of nil = nil
left_of (number n) = nil
left_of (pair tag left right) = left

same_handle : (a b : Handle) → a.0 ≡ b.0 → a ≡ b
same_handle a b e = let handle : ℕ → Handle = λ n. record { 0 = n } in ap handle e

same_pair : (tag other : ℕ) (a b c d : Handle) → tag ≡ other → a ≡ b → c ≡ d → cell.Pair tag a c ≡ cell.Pair other b d
same_pair tag other a b c d e f g = cc

tags : (tag other : ℕ) (a b c d : CellTree) → pair tag a c ≡ pair other b d → (tag ≡ other) × (a ≡ b) × (c ≡ d)
tags tag other a b c d e = (cc, (cc), (cc))

-- forms over handles that stand for different cells are equal where their cells are
pub whole-injective : (cells : List CellTree) (x y : Cell) → IsInjective cells → IsFor (length cells) x → IsFor (length cells) y → whole cells x ≡ whole cells y → x ≡ y
whole-injective cells cell.Nil y inj hx hy e = absurd hx
whole-injective cells (cell.Number v) cell.Nil inj hx hy e = absurd hy
whole-injective cells (cell.Number v) (cell.Number w) inj hx hy e = cc
whole-injective cells (cell.Number v) (cell.Pair tag left right) inj hx hy e = cc
whole-injective cells (cell.Pair tag left right) cell.Nil inj hx hy e = absurd hy
whole-injective cells (cell.Pair tag left right) (cell.Number w) inj hx hy e = cc
whole-injective cells (cell.Pair tag left right) (cell.Pair other a b) inj hx hy e =
    let t = tags tag other _ _ _ _ e in
    same_pair tag other left a right b t.0 (same_handle _ _ (inj left.0 a.0 hx.0 hy.0 t.1)) (same_handle _ _ (inj right.0 b.0 hx.1 hy.1 t.2))

-- a form that can stand in a row is not nil
pub whole-not_nil : (cells : List CellTree) (n : ℕ) (form : Cell) → IsFor n form → nil ≡ whole cells form → ⊥
whole-not_nil cells n cell.Nil h e = absurd h
whole-not_nil cells n (cell.Number value) h e = cc
whole-not_nil cells n (cell.Pair tag left right) h e = cc

-- a cell in no row has no handle
pub unnamed : (cells : List CellTree) (rows : List Row) (form : Cell) → IsKept cells rows → IsFor (length cells) form →
    ((i : ℕ) → ¬ IsAt rows form i) → ¬ IsNamed cells (whole cells form)
unnamed cells rows form k h none (zero, within, stands) = whole-not_nil cells _ form h stands
unnamed cells rows form k h none (suc i, within, stands) =
    let below : i < length rows = omega (arith, within, k.same_length) in
    let row = k.meant i below in
    none i (below, whole-injective cells (row_at rows i).cell form k.distinct (IsFor-wider i _ _ (omega (arith, k.same_length)) (k.sides i below)) h (sym row ∙ stands))

-- a cell in a row has that row's handle
pub named : (cells : List CellTree) (rows : List Row) (form : Cell) (i : ℕ) → IsKept cells rows → IsAt rows form i → at cells (suc i) ≡ whole cells form
named cells rows form i k h = k.meant i h.0 ∙ ap (whole cells) h.1

row_at-push : (rows : List Row) (row : Row) (i : ℕ) → i < length rows → row_at (rows ++ row ∷ []) i ≡ row_at rows i
row_at-push rows row i h = get_or-append rows (row ∷ []) _ i h

row_at-last : (rows : List Row) (row : Row) → row_at (rows ++ row ∷ []) (length rows) ≡ row
row_at-last rows row = get_or-append_seam rows row [] _

step : (i n : ℕ) → i ≤ suc n → (i ≤ n) ⊎ (i ≡ suc n)
step zero n h = inl (omega arith)
step (suc i) zero h = inr (omega arith)
step (suc i) (suc n) h = over (step i n (omega arith)) where
  over : (i ≤ n) ⊎ (i ≡ suc n) → (suc i ≤ suc n) ⊎ (suc i ≡ suc (suc n))
  over (inl l) = inl (omega arith)
  over (inr e) = inr (omega arith)

apart : (cells : List CellTree) (more : CellTree) (i j : ℕ) → ¬ IsNamed cells more → i ≤ length cells → j ≡ suc (length cells) →
    at (cells ++ more ∷ []) i ≡ at (cells ++ more ∷ []) j → ⊥
apart cells more i j none l e same =
    none (i, l, sym (at-push cells more i l) ∙ same ∙ ap (at (cells ++ more ∷ [])) e ∙ at-last cells more)

-- handles stand for different cells after a row more
pub injective-push : (cells : List CellTree) (more : CellTree) → IsInjective cells → ¬ IsNamed cells more → IsInjective (cells ++ more ∷ [])
injective-push cells more inj none i j hi hj same = over (step i (length cells) (omega (arith, length-append cells (more ∷ [])))) (step j (length cells) (omega (arith, length-append cells (more ∷ [])))) where
  over : (i ≤ length cells) ⊎ (i ≡ suc (length cells)) → (j ≤ length cells) ⊎ (j ≡ suc (length cells)) → i ≡ j
  over (inl a) (inl b) = inj i j a b (sym (at-push cells more i a) ∙ same ∙ at-push cells more j b)
  over (inl a) (inr b) = absurd (apart cells more i j none a b same)
  over (inr a) (inl b) = absurd (apart cells more j i none b a (sym same))
  over (inr a) (inr b) = omega arith

pub below : (i n : ℕ) → i < suc n → (i < n) ⊎ (i ≡ n)
below i n h = over (step (suc i) n (omega arith)) where
  over : (suc i ≤ n) ⊎ (suc i ≡ suc n) → (i < n) ⊎ (i ≡ n)
  over (inl l) = inl (omega arith)
  over (inr e) = inr (omega arith)

-- the cells are still those of the rows, each in one row, after a row of a cell that was in none
pub kept-push : (cells : List CellTree) (rows : List Row) (row : Row) → IsKept cells rows → IsFor (length cells) row.cell →
    ((i : ℕ) → ¬ IsAt rows row.cell i) → IsKept (cells ++ whole cells row.cell ∷ []) (rows ++ row ∷ [])
kept-push cells rows row k h none = record {
  same_length = omega (arith, length-append cells (whole cells row.cell ∷ []), length-append rows (row ∷ []), k.same_length);
  sides = λ i l. sides_over i (below i (length rows) (omega (arith, length-append rows (row ∷ []))));
  meant = λ i l. meant_over i (below i (length rows) (omega (arith, length-append rows (row ∷ []))));
  distinct = injective-push cells (whole cells row.cell) k.distinct (unnamed cells rows row.cell k h none);
} where
  sides_over : (i : ℕ) → (i < length rows) ⊎ (i ≡ length rows) → IsFor i (row_at (rows ++ row ∷ []) i).cell
  sides_over i (inl l) = subst (λ r. IsFor i r.cell) (sym (row_at-push rows row i l)) (k.sides i l)
  sides_over i (inr e) = subst (λ n. IsFor n (row_at (rows ++ row ∷ []) n).cell) (sym e) (subst (λ r. IsFor (length rows) r.cell) (sym (row_at-last rows row)) (subst (λ n. IsFor n row.cell) k.same_length h))

  meant_over : (i : ℕ) → (i < length rows) ⊎ (i ≡ length rows) → at (cells ++ whole cells row.cell ∷ []) (suc i) ≡ whole (cells ++ whole cells row.cell ∷ []) (row_at (rows ++ row ∷ []) i).cell
  meant_over i (inl l) =
      at-push cells (whole cells row.cell) (suc i) (omega (arith, k.same_length)) ∙ k.meant i l
      ∙ sym (whole-push cells (whole cells row.cell) (row_at rows i).cell (IsOver-from_IsFor i _ _ (omega (arith, k.same_length)) (k.sides i l)))
      ∙ ap (λ r. whole (cells ++ whole cells row.cell ∷ []) r.cell) (sym (row_at-push rows row i l))
  meant_over i (inr e) =
      ap (λ n. at (cells ++ whole cells row.cell ∷ []) (suc n)) (e ∙ sym k.same_length) ∙ at-last cells (whole cells row.cell)
      ∙ sym (whole-push cells (whole cells row.cell) row.cell (IsOver-from_IsFor _ _ _ (omega arith) h))
      ∙ ap (λ r. whole (cells ++ whole cells row.cell ∷ []) r.cell) (sym (row_at-last rows row) ∙ ap (row_at (rows ++ row ∷ [])) (sym e))

-- a row with this form was put behind the others
abbrev pub IsLinked : List Row → List Row → Cell → Type 0
IsLinked rows more form = (row : Row) × (row.cell ≡ form) × (more ≡ rows ++ row ∷ [])

-- the cells of linked rows gain the form's cell
pub cells-linked : (rows more : List Row) (form : Cell) → IsLinked rows more form → cells_from [] more ≡ cells_from [] rows ++ whole (cells_from [] rows) form ∷ []
cells-linked rows more form (row, same, push) =
    ap (cells_from []) push ∙ cells_from-push [] rows row ∙ ap (λ f. cells_from [] rows ++ whole (cells_from [] rows) f ∷ []) same

-- linked rows are kept
pub kept-linked : (cells : List CellTree) (rows more : List Row) (form : Cell) → IsKept (cells_from [] rows) rows → cells_from [] rows ≡ cells → IsFor (length cells) form →
    ¬ IsNamed cells (whole cells form) → IsLinked rows more form → IsKept (cells_from [] more) more
kept-linked cells rows more form k view h none (row, same, push) =
    let P : List Row → Type 0 = λ m. IsKept (cells_from [] m) m in
    subst P (sym push)
    (let Q : List CellTree → Type 0 = λ c. IsKept c (rows ++ row ∷ []) in
    subst Q (sym (cells_from-push [] rows row))
    (kept-push (cells_from [] rows) rows row k
    (let F : List CellTree → Type 0 = λ c. IsFor (length c) row.cell in subst F (sym view) (let G : Cell → Type 0 = λ f. IsFor (length cells) f in subst G (sym same) h))
    (λ i l. none (let N : List CellTree → Type 0 = λ c. IsNamed c (whole c form) in subst N view
    (suc i, omega (arith, l.0, k.same_length), named (cells_from [] rows) rows form i k (l.0, l.1 ∙ same))))))

-- linked rows are one more
pub within-linked : (rows more : List Row) (form : Cell) (quota : ℕ) → IsLinked rows more form → length rows < quota → length more ≤ quota
within-linked rows more form quota (row, same, push) h = omega (arith, ap length push, length-append rows (row ∷ []))

sides-whole : (cells : List CellTree) (form : Cell) → IsFor (length cells) form → HasSides cells (whole cells form)
sides-whole cells cell.Nil h = absurd h
sides-whole cells (cell.Number value) h = tt
sides-whole cells (cell.Pair tag left right) h = ((left.0, h.0, refl), (right.0, h.1, refl))

-- the cells of kept rows are a shelf
pub shelf-indexed : (cells : List CellTree) (rows : List Row) (quota : ℕ) → quota ≤ 2 ^ 24 → length rows ≤ quota → IsKept cells rows →
    (let s : Shelf = record { cells = cells; quota = quota } in IsShelf s)
shelf-indexed cells rows quota limit within k = record {
  limit = limit;
  within = omega (arith, k.same_length);
  distinct = k.distinct;
  sides = λ i h. let l : i < length rows = omega (arith, h, k.same_length) in
      let P : CellTree → Type 0 = HasSides cells in
      subst P (sym (k.meant i l)) (sides-whole cells (row_at rows i).cell (IsFor-wider i _ _ (omega (arith, h)) (k.sides i l)));
}
