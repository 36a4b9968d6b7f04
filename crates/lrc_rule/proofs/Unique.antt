-- Equal rows are one row: a handle stands for one cell, and a cell has one handle.
use Rattle.std.proofs.Common.{◌≡◌, ℕ, ℤ, suc, ◌<◌, ◌≤◌, List, refl, sym, ◌∙◌, ap, subst, arith}
use Rattle.std.specs.Int.{cast_signed, w64}
use mathlib.Core.Logic.{dite}
use native.Mathlib.Decide.{dec_lt}
use Rattle.lrc_store.specs.Cells.{CellTree, nil, number, pair}
use Rattle.lrc_rule.specs.declared.layout.Content.{Content}
use Rattle.lrc_rule.specs.declared.layout.Layout.{Layout}
use Rattle.lrc_rule.specs.Rows.{bucket, part, content, Names, IsPublished, depth, IsNumber, IsPair, Stands, Fits, IsAbsent, IsPassed, IsTable}
use Rattle.lrc_rule.specs.Home.{place_on}
use Rattle.lrc_rule.proofs.Growth.{content_is}

same_pair : (tag other : ℕ) (a b c d : CellTree) → tag ≡ other → a ≡ b → c ≡ d → pair tag a c ≡ pair other b d
same_pair tag other a b c d e f g = cc

same_number : (n m : ℤ) (c : Content) → IsNumber n c → IsNumber m c → n ≡ m
same_number n m c h k = sym h.1 ∙ (ap (cast_signed w64) (ap (λ (x : Content). x.left) (sym h.0 ∙ k.0)) ∙ k.1)

tag_zero : (n : ℤ) (c : Content) → IsNumber n c → c.tag ≡ 0
tag_zero n c h = ap (λ (x : Content). x.tag) h.0

-- one number is less than another, or more, or they are one
order : (i j : ℕ) (Q : Type 0) → (i < j → Q) → (j < i → Q) → (i ≡ j → Q) → Q
order i j Q less more same = dite (dec_lt i j) less (λ n. dite (dec_lt j i) more (λ m. same (omega arith)))

module _ (l : Layout) (words : List ℕ) where
  by_row : {Q : Type 0} (cell : CellTree) (c : Content) → Fits l words cell c → (handle : ℕ) → Stands l words cell handle → ((row : ℕ) → IsPublished l words row → Fits l words cell (content l words row) → Q) → Q
  by_row nil c f handle h k = absurd f
  by_row (number n) c f handle h k = k h.row h.published h.fit
  by_row (pair tag left right) c f handle h k = k h.row h.published h.fit

  -- a row with the content of a cell and its depth stands for it
  pub Stands-from_row : (cell : CellTree) (row : ℕ) → IsPublished l words row → Fits l words cell (content l words row) → part l words row 3 ≡ depth cell → Stands l words cell (suc row)
  Stands-from_row nil row p f d = absurd f
  Stands-from_row (number n) row p f d = record { row = row; named = refl; published = p; fit = f; deep_as = d }
  Stands-from_row (pair tag left right) row p f d = record { row = row; named = refl; published = p; fit = f; deep_as = d }

  pub row_of : (cell : CellTree) (row : ℕ) → Stands l words cell (suc row) → IsPublished l words row × Fits l words cell (content l words row) × (part l words row 3 ≡ depth cell)
  row_of nil row h = absurd (omega (arith, h))
  row_of (number n) row h = let e : h.row ≡ row = omega (arith, h.named) in
      subst (λ r. IsPublished l words r × IsNumber n (content l words r) × (part l words r 3 ≡ 1)) e (h.published, h.fit, h.deep_as)
  row_of (pair tag left right) row h = let e : h.row ≡ row = omega (arith, h.named) in
      subst (λ r. IsPublished l words r × IsPair tag (Stands l words left) (Stands l words right) (content l words r) × (part l words r 3 ≡ depth (pair tag left right))) e (h.published, h.fit, h.deep_as)

  -- a handle stands for at most one cell
  pub cell_unique : (cell other : CellTree) (handle : ℕ) → Stands l words cell handle → Stands l words other handle → cell ≡ other
  cell_unique nil nil handle h k = refl
  cell_unique nil (number m) handle h k = absurd (omega (arith, h, k.named))
  cell_unique nil (pair tag left right) handle h k = absurd (omega (arith, h, k.named))
  cell_unique (number n) nil handle h k = absurd (omega (arith, k, h.named))
  cell_unique (pair tag left right) nil handle h k = absurd (omega (arith, k, h.named))
  cell_unique (number n) (number m) handle h k =
      let e : k.row ≡ h.row = omega (arith, h.named, k.named) in
      ap number (same_number n m (content l words h.row) h.fit (subst (λ r. IsNumber m (content l words r)) e k.fit))
  cell_unique (number n) (pair tag left right) handle h k =
      let e : k.row ≡ h.row = omega (arith, h.named, k.named) in
      let f = k.fit in
      let z : part l words h.row 0 ≡ 0 = tag_zero n _ h.fit in
      let t : part l words h.row 0 ≡ tag = sym (ap (λ r. part l words r 0) e) ∙ f.0 in
      let some : 1 ≤ tag = f.3 in
      absurd (omega (arith, z, t, some))
  cell_unique (pair tag left right) (number n) handle h k =
      let e : k.row ≡ h.row = omega (arith, h.named, k.named) in
      let f = h.fit in
      let z : part l words k.row 0 ≡ 0 = tag_zero n _ k.fit in
      let t : part l words k.row 0 ≡ tag = ap (λ r. part l words r 0) e ∙ f.0 in
      let some : 1 ≤ tag = f.3 in
      absurd (omega (arith, z, t, some))
  cell_unique (pair tag left right) (pair other a b) handle h k =
      let e : k.row ≡ h.row = omega (arith, h.named, k.named) in
      let f = h.fit in
      let g = subst (λ r. IsPair other (Stands l words a) (Stands l words b) (content l words r)) e k.fit in
      same_pair tag other left a right b (sym f.0 ∙ g.0) (cell_unique left a _ f.1 g.1) (cell_unique right b _ f.2 g.2)

  -- three words are those of at most one cell
  pub fitting_cell_unique : (cell other : CellTree) (c : Content) → Fits l words cell c → Fits l words other c → cell ≡ other
  fitting_cell_unique nil other c h k = absurd h
  fitting_cell_unique (number n) nil c h k = absurd k
  fitting_cell_unique (pair tag left right) nil c h k = absurd k
  fitting_cell_unique (number n) (number m) c h k = ap number (same_number n m c h k)
  fitting_cell_unique (number n) (pair tag left right) c h k = let z : c.tag ≡ 0 = tag_zero n c h in let t : c.tag ≡ tag = k.0 in let some : 1 ≤ tag = k.3 in absurd (omega (arith, z, t, some))
  fitting_cell_unique (pair tag left right) (number n) c h k = let z : c.tag ≡ 0 = tag_zero n c k in let t : c.tag ≡ tag = h.0 in let some : 1 ≤ tag = h.3 in absurd (omega (arith, z, t, some))
  fitting_cell_unique (pair tag left right) (pair other a b) c h k =
      same_pair tag other left a right b (sym h.0 ∙ k.0) (cell_unique left a _ h.1 k.1) (cell_unique right b _ h.2 k.2)

  module _ (t : IsTable l words) where
    -- a row is not behind its own bucket
    unblocked : (place row steps j : ℕ) (c : Content) → Names l words place row → IsPassed l words c steps → j < steps → place ≡ place_on l c j → content l words row ≡ c → ⊥
    unblocked place row steps j c n passed small at same =
        let o = passed j small in
        let e : suc o.0 ≡ suc row = sym o.1.1 ∙ (ap (bucket l words) (sym at) ∙ n.1) in
        let f : o.0 ≡ row = omega (arith, e) in
        o.2 (ap (content l words) f ∙ same)

    -- two published rows of equal content are one row
    pub row_unique : (row other : ℕ) → IsPublished l words row → IsPublished l words other → content l words row ≡ content l words other → row ≡ other
    row_unique row other p q same =
        let x = t.reached p.0 row p.1 in
        let y = t.reached q.0 other q.1 in
        order x.0 y.0 (row ≡ other)
        (λ less. absurd (unblocked p.0 row y.0 x.0 (content l words other) p.1 y.3 less (x.2 ∙ ap (λ c. place_on l c x.0) same) same))
        (λ less. absurd (unblocked q.0 other x.0 y.0 (content l words row) q.1 x.3 less (y.2 ∙ ap (λ c. place_on l c y.0) (sym same)) (sym same)))
        (λ e. let at : p.0 ≡ q.0 = x.2 ∙ ((λ i. place_on l (same i) (e i)) ∙ sym y.2) in let f : suc row ≡ suc other = sym p.1.1 ∙ (ap (bucket l words) at ∙ q.1.1) in omega (arith, f))

    row_with : (place row steps j : ℕ) (c : Content) → bucket l words place ≡ 0 → place ≡ place_on l c steps → IsPassed l words c j → steps < j → ⊥
    row_with place row steps j c empty at passed small =
        let o = passed steps small in
        let e : suc o.0 ≡ 0 = sym o.1.1 ∙ (ap (bucket l words) (sym at) ∙ empty) in
        omega (arith, e)

    -- where an empty bucket comes after full buckets of other contents, no published row has the content
    pub not_there : (c : Content) (steps row : ℕ) → IsPassed l words c steps → bucket l words (place_on l c steps) ≡ 0 → IsPublished l words row → content l words row ≡ c → ⊥
    not_there c steps row passed empty p same =
        let x = t.reached p.0 row p.1 in
        let at : p.0 ≡ place_on l c x.0 = x.2 ∙ ap (λ d. place_on l d x.0) same in
        order x.0 steps ⊥
        (λ less. unblocked p.0 row steps x.0 c p.1 passed less at same)
        (λ more. row_with (place_on l c steps) row steps x.0 c empty refl (subst (λ d. IsPassed l words d x.0) same x.3) more)
        (λ e. let full : suc row ≡ 0 = sym p.1.1 ∙ (ap (bucket l words) (at ∙ ap (place_on l c) e) ∙ empty) in omega (arith, full))

    -- a cell has at most one handle, and at most one content
    pub handle_unique : (cell : CellTree) (one other : ℕ) → Stands l words cell one → Stands l words cell other → one ≡ other
    handle_unique nil one other h k = h ∙ sym k
    handle_unique (number n) one other h k = h.named ∙ (ap suc (row_unique h.row k.row h.published k.published (h.fit.0 ∙ sym k.fit.0)) ∙ sym k.named)
    handle_unique (pair tag left right) one other h k =
        let f = h.fit in let g = k.fit in
        let same = content_is l words words h.row k.row (f.0 ∙ sym g.0) (handle_unique left _ _ f.1 g.1) (handle_unique right _ _ f.2 g.2) in
        h.named ∙ (ap suc (row_unique h.row k.row h.published k.published same) ∙ sym k.named)

    pub content_unique : (cell : CellTree) (c d : Content) → Fits l words cell c → Fits l words cell d → c ≡ d
    content_unique nil c d h k = absurd h
    content_unique (number n) c d h k = h.0 ∙ sym k.0
    content_unique (pair tag left right) c d h k =
        (λ i. record { tag = (h.0 ∙ sym k.0) i; left = handle_unique left _ _ h.1 k.1 i; right = handle_unique right _ _ h.2 k.2 i })

    -- a published row with the content of a cell stands for it
    pub Stands-from_content : (cell : CellTree) (row : ℕ) → IsPublished l words row → Fits l words cell (content l words row) → Stands l words cell (suc row)
    Stands-from_content cell row p f =
        let s = t.standing row p in
        let e = fitting_cell_unique cell s.0 (content l words row) f (row_of s.0 row s.1).1 in
        subst (λ c. Stands l words c (suc row)) (sym e) s.1

    -- the cell of a known content is absent where its path ends in an empty bucket
    pub IsAbsent-from_path : (cell : CellTree) (c : Content) (steps : ℕ) → Fits l words cell c → IsPassed l words c steps → bucket l words (place_on l c steps) ≡ 0 → IsAbsent l words cell
    IsAbsent-from_path cell c steps f passed empty handle h = by_row cell c f handle h (λ row p g. not_there c steps row passed empty p (content_unique cell _ c g f))

    -- the row that a content is sought in is none of a place with another content
    pub published-from_named : (row : ℕ) → IsPublished l words row → row < l.rows
    published-from_named row p = let w = t.within p.0 p.1.0 in let e = p.1.1 in omega (arith, w, e)
