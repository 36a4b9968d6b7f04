-- As many rows as there are, and as many buckets as are full: a probe ends, and no cell is deeper.
use Rattle.std.proofs.Common.{◌≡◌, ℕ, zero, suc, pred, ◌+◌, ◌%◌, ◌<◌, ◌≤◌, max, List, sym, ◌∙◌, ap, subst, arith}
use mathlib.Core.Logic.{dite}
use native.Mathlib.Decide.{dec_le, dec_lt}
use Rattle.std_collections.proofs.IndexTableLemmas.Probe.{pigeonhole}
use Rattle.atomic_table.proofs.Lists.{one_turn}
use Rattle.lrc_store.specs.Cells.{CellTree, nil, number, pair}
use Rattle.lrc_rule.specs.declared.layout.Content.{Content}
use Rattle.lrc_rule.specs.declared.layout.Layout.{Layout}
use Rattle.lrc_rule.specs.Rows.{bucket, part, Names, IsPublished, full_below, full_buckets, depth, Stands, IsPassed, IsTable}
use Rattle.lrc_rule.specs.Home.{home_of, place_on}
use Rattle.lrc_rule.proofs.Unique.{row_of}

pick : (P : ℕ → Type 0) (L : Type 0) → (L → (n : ℕ) × P n) → Dec L → (n : ℕ) × (L → P n)
pick P L h (yes d) = ((h d).0, λ _. (h d).1)
pick P L h (no d) = (0, λ l. absurd (d l))

-- a number for each of the first n, by a total function
choose : (n : ℕ) (P : ℕ → ℕ → Type 0) → ((i : ℕ) → i < n → (m : ℕ) × P i m) → (f : ℕ → ℕ) × ((i : ℕ) → i < n → P i (f i))
choose n P h = (λ i. (pick (P i) (i < n) (h i) (dec_lt i n)).0, λ i. (pick (P i) (i < n) (h i) (dec_lt i n)).1)

-- two places that are less than a turn apart from one start are one
same_step : (start i j n : ℕ) → i < n → j < n → (start + i) % n ≡ (start + j) % n → i ≡ j
same_step start i j n a b e = dite (dec_lt i j)
    (λ less. let o = one_turn (start + i) (start + j) n (omega arith) (omega arith) e in omega (arith, o))
    (λ more. let o = one_turn (start + j) (start + i) n (omega arith) (omega arith) (sym e) in omega (arith, o))

-- ---- full buckets, and how many of them come before a place

full-one : (l : Layout) (words : List ℕ) (place row : ℕ) → bucket l words place ≡ suc row → 1 ≤ bucket l words place
full-one l words place row e = omega (arith, e)

full-grows : (l : Layout) (words : List ℕ) (few more : ℕ) → few ≤ more → full_below l words few ≤ full_below l words more
full-grows l words few zero h = let e : few ≡ 0 = omega (arith, h) in let f = ap (full_below l words) e in omega (arith, f)
full-grows l words few (suc more) h = dite (dec_le few more)
    (λ less. let g = full-grows l words few more less in omega (arith, g))
    (λ n. let e : few ≡ suc more = omega (arith, n, h) in let f = ap (full_below l words) e in omega (arith, f))

full-rises : (l : Layout) (words : List ℕ) (place more : ℕ) → place < more → 1 ≤ bucket l words place → full_below l words place < full_below l words more
full-rises l words place more less full = let g = full-grows l words (suc place) more less in omega (arith, g, full)

-- two full buckets behind equally many are one
same_rank : (l : Layout) (words : List ℕ) (place other : ℕ) → 1 ≤ bucket l words place → 1 ≤ bucket l words other → full_below l words place ≡ full_below l words other → place ≡ other
same_rank l words place other one two e = dite (dec_lt place other)
    (λ less. let r = full-rises l words place other less one in absurd (omega (arith, r, e)))
    (λ n. dite (dec_lt other place) (λ more. let r = full-rises l words other place more two in absurd (omega (arith, r, e))) (λ m. omega (arith, n, m)))

-- for each lesser number there is a full bucket behind so many
ranked : (l : Layout) (words : List ℕ) (places k : ℕ) → k < full_below l words places → (place : ℕ) × ((place < places) × (1 ≤ bucket l words place) × (full_below l words place ≡ k))
ranked l words zero k small = absurd (omega (arith, small))
ranked l words (suc places) k small = dite (dec_lt k (full_below l words places))
    (λ less. let r = ranked l words places k less in let inside = r.1.0 in (r.0, (omega (arith, inside), r.1.1, r.1.2)))
    (λ n. (places, (omega arith, omega (arith, small, n), omega (arith, small, n))))

module _ (l : Layout) (words : List ℕ) (t : IsTable l words) where
  -- what is sought has passed at most as many places as there are rows
  pub passed-le : (c : Content) (steps : ℕ) → steps ≤ l.buckets → IsPassed l words c steps → steps ≤ l.rows
  passed-le c steps few passed =
      let f : ℕ → ℕ = λ i. pred (bucket l words (place_on l c i)) in
      let named : (i : ℕ) → i < steps → Names l words (place_on l c i) (f i) = λ i small. let o = passed i small in (o.1.0, o.1.1 ∙ sym (ap (λ n. suc (pred n)) o.1.1)) in
      pigeonhole steps l.rows f
      (λ i small. let w = t.within (place_on l c i) (named i small).0 in let e = (named i small).1 in omega (arith, w, e))
      (λ i j p q e. let at = t.once _ _ (f i) (named i p) (subst (λ r. Names l words (place_on l c j) r) (sym e) (named j q)) in
      same_step (home_of c.tag c.left c.right l.buckets) i j l.buckets (omega arith) (omega arith) at)

  -- within a cell there are rows of each lesser depth
  row_of_depth : (cell : CellTree) (handle : ℕ) → Stands l words cell handle → (i : ℕ) → i < depth cell → (row : ℕ) × (IsPublished l words row × (part l words row 3 ≡ suc i))
  row_of_depth nil handle h i small = absurd (omega (arith, small))
  row_of_depth (number n) handle h i small = (h.row, (h.published, h.deep_as ∙ (let e : 1 ≡ suc i = omega (arith, small) in e)))
  row_of_depth (pair tag left right) handle h i small = let f = h.fit in dite (dec_lt i (depth left))
      (λ less. row_of_depth left _ f.1 i less)
      (λ n. dite (dec_lt i (depth right)) (λ less. row_of_depth right _ f.2 i less)
      (λ m. (h.row, (h.published, h.deep_as ∙ (let e : suc (max (depth left) (depth right)) ≡ suc i = omega (arith, small, n, m) in e)))))

  -- no cell is deeper than there are full buckets
  pub depth-full : (cell : CellTree) (handle : ℕ) → Stands l words cell handle → depth cell ≤ full_buckets l words
  depth-full cell handle h =
      let f = choose (depth cell) (λ i row. IsPublished l words row × (part l words row 3 ≡ suc i)) (row_of_depth cell handle h) in
      let at : (i : ℕ) → i < depth cell → (place : ℕ) × Names l words place (f.0 i) = λ i small. (f.1 i small).0 in
      let g = choose (depth cell) (λ i place. Names l words place (f.0 i)) at in
      pigeonhole (depth cell) (full_buckets l words) (λ i. full_below l words (g.0 i))
      (λ i small. let n = g.1 i small in full-rises l words (g.0 i) l.buckets n.0 (full-one l words (g.0 i) (f.0 i) n.1))
      (λ i j p q e.
      let n = g.1 i p in let m = g.1 j q in
      let place = same_rank l words (g.0 i) (g.0 j) (full-one l words (g.0 i) (f.0 i) n.1) (full-one l words (g.0 j) (f.0 j) m.1) e in
      let row : suc (f.0 i) ≡ suc (f.0 j) = sym n.1 ∙ (ap (bucket l words) place ∙ m.1) in
      let same : f.0 i ≡ f.0 j = omega (arith, row) in
      let a = (f.1 i p).1 in let b = (f.1 j q).1 in
      let x : suc i ≡ suc j = sym a ∙ (ap (λ r. part l words r 3) same ∙ b) in omega (arith, x))

  -- so no depth in a published row exceeds their number
  pub row-depth : (row : ℕ) → IsPublished l words row → part l words row 3 ≤ full_buckets l words
  row-depth row h = let s = t.standing row h in let deep = depth-full s.0 (suc row) s.1 in let e = (row_of l words s.0 row s.1).2 in omega (arith, deep, e)

  -- at most as many buckets are full as there are rows
  pub full-le : full_buckets l words ≤ l.rows
  full-le =
      let n = full_buckets l words in
      let f = choose n (λ k place. (place < l.buckets) × (1 ≤ bucket l words place) × (full_below l words place ≡ k)) (λ k small. ranked l words l.buckets k small) in
      let named : (k : ℕ) → k < n → bucket l words (f.0 k) ≡ suc (pred (bucket l words (f.0 k))) = λ k small. let some = (f.1 k small).1 in omega (arith, some) in
      pigeonhole n l.rows (λ k. pred (bucket l words (f.0 k)))
      (λ k small. let w = t.within (f.0 k) (f.1 k small).0 in let some = (f.1 k small).1 in omega (arith, w, some))
      (λ k j p q e.
      let place = t.once (f.0 k) (f.0 j) (pred (bucket l words (f.0 k))) ((f.1 k p).0, named k p) ((f.1 j q).0, named j q ∙ ap suc (sym e)) in
      sym (f.1 k p).2 ∙ (ap (full_below l words) place ∙ (f.1 j q).2))

  -- so no cell is deeper than there are rows
  pub depth-le : (cell : CellTree) (handle : ℕ) → Stands l words cell handle → depth cell ≤ l.rows
  depth-le cell handle h = let deep = depth-full cell handle h in let full = full-le in omega (arith, deep, full)
