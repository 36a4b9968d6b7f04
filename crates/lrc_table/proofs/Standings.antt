-- What a pass stands for is what stands in the words that it knows.
use Rattle.std.proofs.lemmas.Bool.{false≢true}
use Rattle.std.proofs.Common.{◌≡◌, ◌⊎◌, inl, inr, ⊎_elim, ℕ, zero, suc, ◌<◌, ◌≤◌, Bool, true, false, cond, ◌||◌, eqb, eqb-true, eq-eqb, ne_eqb, List, refl, sym, ◌∙◌, ap, subst, arith}
use mathlib.Core.Logic.{dite}
use native.Mathlib.Decide.{dec_lt}
use Rattle.std.specs.Prelude.{Option, Some, None}
use Rattle.std.specs.Int.{cast_signed, w64}
use Rattle.lrc_store.specs.Cells.{CellTree, nil, number, pair}
use Rattle.lrc_rule.specs.declared.layout.Content.{Content}
use Rattle.lrc_rule.specs.declared.layout.Layout.{Layout}
use Rattle.lrc_rule.specs.Rows.{Stands, IsPublished, IsTable, depth, part, bucket}
use Rattle.lrc_rule.proofs.Counts.{depth-le}
use Rattle.lrc_table.specs.Standings.{is_bucketed, paired, cell_at}

or_left : (a b : Bool) → a ≡ true → a || b ≡ true
or_left a b e = ap (λ x. x || b) e

or_right : (a b : Bool) → b ≡ true → a || b ≡ true
or_right true b e = refl
or_right false b e = e

or_cases : (a b : Bool) → a || b ≡ true → (a ≡ true) ⊎ (b ≡ true)
or_cases true b e = inl refl
or_cases false b e = inr e

some_is : (a b : CellTree) → Some a ≡ Some b → a ≡ b
some_is a b e = ap (λ (o : Option CellTree). inner o) e
  where
    inner : Option CellTree → CellTree
    inner None = nil
    inner (Some c) = c

none_some : (a : CellTree) → None ≡ Some a → ⊥
none_some a e = false≢true (ap (λ (o : Option CellTree). is o) e)
  where
    is : Option CellTree → Bool
    is None = false
    is (Some c) = true

module _ (l : Layout) (words : List ℕ) where
  is_bucketed-at : (handle place places : ℕ) → place < places → bucket l words place ≡ handle → is_bucketed l words handle places ≡ true
  is_bucketed-at handle place zero small e = absurd (omega (arith, small))
  is_bucketed-at handle place (suc places) small e = dite (dec_lt place places)
      (λ less. or_right (eqb (bucket l words places) handle) (is_bucketed l words handle places) (is_bucketed-at handle place places less e))
      (λ n. let at : places ≡ place = omega (arith, small, n) in or_left (eqb (bucket l words places) handle) (is_bucketed l words handle places) (eq-eqb (bucket l words places) handle (ap (bucket l words) at ∙ e)))

  is_bucketed-from : (handle places : ℕ) → is_bucketed l words handle places ≡ true → (place : ℕ) × (place < places) × (bucket l words place ≡ handle)
  is_bucketed-from handle zero e = absurd (false≢true e)
  is_bucketed-from handle (suc places) e = ⊎_elim
      (λ a. (places, omega arith, eqb-true (bucket l words places) handle a))
      (λ b. let h = is_bucketed-from handle places b in let small = h.1 in (h.0, omega (arith, small), h.2))
      (or_cases (eqb (bucket l words places) handle) (is_bucketed l words handle places) e)

  published-is_bucketed : (row : ℕ) → IsPublished l words row → is_bucketed l words (suc row) l.buckets ≡ true
  published-is_bucketed row p = is_bucketed-at (suc row) p.0 l.buckets p.1.0 p.1.1

  is_bucketed-published : (row : ℕ) → is_bucketed l words (suc row) l.buckets ≡ true → IsPublished l words row
  is_bucketed-published row e = let h = is_bucketed-from (suc row) l.buckets e in (h.0, (h.1, h.2))

  -- a cell that stands is found, where it is not too deep
  cell_at-from : (cell : CellTree) (fuel handle : ℕ) → Stands l words cell handle → depth cell ≤ fuel → cell_at l words fuel handle ≡ Some cell
  unfolding cell_at
  cell_at-from nil fuel handle h deep = ap (cell_at l words fuel) h
  cell_at-from (number n) zero handle h deep = absurd (omega (arith, deep))
  cell_at-from (number n) (suc fuel) handle h deep =
      let f = h.fit in
      ap (cell_at l words (suc fuel)) h.named
      ∙ (ap (λ b. cond b (cond (eqb (part l words h.row 0) 0) (Some (number (cast_signed w64 (part l words h.row 1)))) (paired (part l words h.row 0) (cell_at l words fuel (part l words h.row 1)) (cell_at l words fuel (part l words h.row 2)))) None) (published-is_bucketed h.row h.published)
      ∙ (ap (λ b. cond b (Some (number (cast_signed w64 (part l words h.row 1)))) (paired (part l words h.row 0) (cell_at l words fuel (part l words h.row 1)) (cell_at l words fuel (part l words h.row 2)))) (eq-eqb (part l words h.row 0) 0 (ap (λ (c : Content). c.tag) f.0))
      ∙ ap (λ m. Some (number m)) (ap (cast_signed w64) (ap (λ (c : Content). c.left) f.0) ∙ f.1)))
  cell_at-from (pair tag left right) zero handle h deep = absurd (omega (arith, deep))
  cell_at-from (pair tag left right) (suc fuel) handle h deep =
      let f = h.fit in
      let some : 1 ≤ tag = f.3 in
      let t : part l words h.row 0 ≡ tag = f.0 in
      ap (cell_at l words (suc fuel)) h.named
      ∙ (ap (λ b. cond b (cond (eqb (part l words h.row 0) 0) (Some (number (cast_signed w64 (part l words h.row 1)))) (paired (part l words h.row 0) (cell_at l words fuel (part l words h.row 1)) (cell_at l words fuel (part l words h.row 2)))) None) (published-is_bucketed h.row h.published)
      ∙ (ap (λ b. cond b (Some (number (cast_signed w64 (part l words h.row 1)))) (paired (part l words h.row 0) (cell_at l words fuel (part l words h.row 1)) (cell_at l words fuel (part l words h.row 2)))) (ne_eqb (part l words h.row 0) 0 (λ z. omega (arith, z, t, some)))
      ∙ (λ i. paired (t i) (cell_at-from left fuel _ f.1 (omega (arith, deep)) i) (cell_at-from right fuel _ f.2 (omega (arith, deep)) i))))

  found-published : (cell : CellTree) (fuel row : ℕ) → cell_at l words fuel (suc row) ≡ Some cell → IsPublished l words row
  unfolding cell_at
  found-published cell zero row e = absurd (none_some cell e)
  found-published cell (suc fuel) row e = over (is_bucketed l words (suc row) l.buckets) refl
    where
      rest : Option CellTree
      rest = cond (eqb (part l words row 0) 0) (Some (number (cast_signed w64 (part l words row 1)))) (paired (part l words row 0) (cell_at l words fuel (part l words row 1)) (cell_at l words fuel (part l words row 2)))

      over : (b : Bool) → is_bucketed l words (suc row) l.buckets ≡ b → IsPublished l words row
      over true g = is_bucketed-published row g
      over false g = absurd (none_some cell (sym (ap (λ b. cond b rest None) g) ∙ e))

  module _ (t : IsTable l words) where
    -- a handle is known just where it stands for the cell
    pub known-from : (cell : CellTree) (handle : ℕ) → Stands l words cell handle → cell_at l words l.rows handle ≡ Some cell
    known-from cell handle h = cell_at-from cell l.rows handle h (depth-le l words t cell handle h)

    pub known-to : (cell : CellTree) (handle : ℕ) → cell_at l words l.rows handle ≡ Some cell → Stands l words cell handle
    unfolding cell_at
    known-to cell zero e = subst (λ c. Stands l words c 0) (some_is nil cell e) refl
    known-to cell (suc row) e =
        let s = t.standing row (found-published cell l.rows row e) in
        subst (λ c. Stands l words c (suc row)) (some_is s.0 cell (sym (known-from s.0 (suc row) s.1) ∙ e)) s.1
