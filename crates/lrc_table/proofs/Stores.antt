-- What the calls of a pass do, in the words of a store.
use Rattle.std.proofs.lemmas.List.Elements.{Contains-append_left, Contains-append_right, Contains-append_cases}
use Rattle.std.proofs.Common.{◌≡◌, ◌≢◌, ⊎_elim, ℕ, ℤ, zero, suc, ◌-◌, ◌<◌, ◌≤◌, List, [], ◌∷◌, ◌++◌, refl, sym, ◌∙◌, ap, subst, arith}
use Rattle.std.specs.Prelude.{Option, Some, None, unwrap_or, Contains, option_to_list, Result, Ok, Err, IfOk, OnErr, slice_index_or}
use Rattle.std.specs.Int.{cast_signed, cast_unsigned, w64}
use mathlib.Core.Logic.{dite}
use native.Mathlib.Decide.{ℕ_discrete}
use Rattle.lrc_store.specs.Cells.{CellTree, nil, number, pair, parts, HoldsParts, IsWithin}
use Rattle.lrc_store.specs.Standing.{IsSound, IsKnown, HasNoRepeats, meant}
use Rattle.lrc_store.specs.Words.{Keeps, Lasts, Puts, Tells, IsFullFor, Reads as StoreReads}
use Rattle.lrc_store.specs.declared.cells.Handle.{Handle}
use Rattle.lrc_store.specs.declared.stores.Full.{Full}
use Rattle.lrc_store.proofs.Blocks.{no_blocks-paid}
use Rattle.lrc_store.proofs.Known.{some_meant, is_some_from}
use Rattle.lrc_store.proofs.Lasting.{quota-same, adds-one, once-made}
use Rattle.lrc_rule.specs.declared.layout.Content.{Content}
use Rattle.lrc_rule.specs.declared.layout.Layout.{Layout}
use Rattle.lrc_rule.specs.Layout.{IsLayout}
use Rattle.lrc_rule.specs.Rows.{Stands, Fits, IsPublished, IsTable, content}
use Rattle.lrc_rule.specs.Views.{View, Owned, now, AreMade}
use Rattle.lrc_rule.specs.Rows.{Grows}
use Rattle.lrc_rule.proofs.Growth.{Stands-grown}
use Rattle.lrc_rule.specs.Steps.{IsCurrent, Follows}
use Rattle.lrc_rule.proofs.Unique.{row_of, handle_unique}
use Rattle.lrc_table.specs.Passes.{PassView, Reads, Seeks, IsSpentFor, IsUnnoted, StandsFor, Answers, Meets}
use Rattle.lrc_table.specs.Standings.{cell_at, cells_below, standing}
use Rattle.lrc_table.proofs.Follow.{Stands-later, row-below, handle-le, depth_at}
use Rattle.lrc_table.proofs.Standings.{known-from, known-to}

-- ---- the cells that are in the table for good

only_one : (x cell : CellTree) → Contains (x ∷ []) cell → x ≡ cell
only_one x cell h = first h.0 h.1 h.2
  where
    first : (k : ℕ) → k < 1 → slice_index_or (x ∷ []) k cell ≡ cell → x ≡ cell
    first zero small e = e
    first (suc k) small e = absurd (omega (arith, small))

in_option : (o : Option CellTree) (cell : CellTree) → Contains (option_to_list o) cell → o ≡ Some cell
in_option None cell h = absurd (omega (arith, h.1))
in_option (Some x) cell h = ap (λ (c : CellTree). Some c) (only_one x cell h)

option_in : (o : Option CellTree) (cell : CellTree) → o ≡ Some cell → Contains (option_to_list o) cell
option_in o cell e = subst (λ (x : Option CellTree). Contains (option_to_list x) cell) (sym e) (0, omega arith, refl)

below_from : (l : Layout) (words : List ℕ) (n row : ℕ) (cell : CellTree) → row < n → cell_at l words l.rows (suc row) ≡ Some cell → Contains (cells_below l words n) cell
below_from l words zero row cell small e = absurd (omega (arith, small))
below_from l words (suc n) row cell small e = dite (ℕ_discrete row n)
    (λ same. Contains-append_left _ (cells_below l words n) cell (option_in _ cell (ap (λ r. cell_at l words l.rows (suc r)) (sym same) ∙ e)))
    (λ other. Contains-append_right _ (cells_below l words n) cell (below_from l words n row cell (omega (arith, small, other)) e))

below_to : (l : Layout) (words : List ℕ) (n : ℕ) (cell : CellTree) → Contains (cells_below l words n) cell → (row : ℕ) × (cell_at l words l.rows (suc row) ≡ Some cell)
below_to l words zero cell h = absurd (omega (arith, h.1))
below_to l words (suc n) cell h = ⊎_elim (λ a. (n, in_option _ cell a)) (λ b. below_to l words n cell b) (Contains-append_cases _ (cells_below l words n) cell h)

module _ (l : Layout) (words : List ℕ) (t : IsTable l words) where
  pub seen-from : (cell : CellTree) (handle : ℕ) → Stands l words cell handle → cell ≢ nil → Contains (cells_below l words l.rows) cell
  seen-from nil handle h some = absurd (some refl)
  seen-from (number n) handle h some = below_from l words l.rows h.row (number n) (row-below l words t h.row h.published) (ap (cell_at l words l.rows) (sym h.named) ∙ known-from l words t (number n) handle h)
  seen-from (pair tag left right) handle h some =
      below_from l words l.rows h.row (pair tag left right) (row-below l words t h.row h.published) (ap (cell_at l words l.rows) (sym h.named) ∙ known-from l words t (pair tag left right) handle h)

  pub seen-to : (cell : CellTree) → Contains (cells_below l words l.rows) cell → (handle : ℕ) × (Stands l words cell handle × (cell ≢ nil))
  seen-to cell h = let b = below_to l words l.rows cell h in let s = known-to l words t cell (suc b.0) b.1 in
      (suc b.0, (s, λ e. let z : suc b.0 ≡ 0 = subst (λ c. Stands l words c (suc b.0)) e s in omega (arith, z)))

  -- each part of a cell that stands, stands
  part_stands : (cell part : CellTree) (handle : ℕ) → Stands l words cell handle → Contains (parts cell) part → (h : ℕ) × (Stands l words part h × (part ≢ nil))
  part_stands nil part handle h c = absurd (omega (arith, c.1))
  part_stands (number n) part handle h c = subst (λ p. (h : ℕ) × (Stands l words p h × (p ≢ nil))) (only_one (number n) part c) (handle, (h, not_nil n))
    where
      is_nil : CellTree → ℕ
      is_nil nil = 0
      is_nil (number m) = 1
      is_nil (pair tag left right) = 1

      not_nil : (m : ℤ) → number m ≢ nil
      not_nil m e = let z : 1 ≡ 0 = ap is_nil e in omega (arith, z)
  part_stands (pair tag left right) part handle h c = ⊎_elim
      (λ a. subst (λ p. (h : ℕ) × (Stands l words p h × (p ≢ nil))) (only_one (pair tag left right) part a) (handle, (h, not_nil)))
      (λ b. ⊎_elim (λ x. part_stands left part _ h.fit.1 x) (λ y. part_stands right part _ h.fit.2 y) (Contains-append_cases (parts left) (parts right) part b))
      (Contains-append_cases (pair tag left right ∷ []) (parts left ++ parts right) part c)
    where
      is_nil : CellTree → ℕ
      is_nil nil = 0
      is_nil (number m) = 1
      is_nil (pair tag left right) = 1

      not_nil : pair tag left right ≢ nil
      not_nil e = let z : 1 ≡ 0 = ap is_nil e in omega (arith, z)

  pub seen-parts : (cell : CellTree) (handle : ℕ) → Stands l words cell handle → HoldsParts (cells_below l words l.rows) cell
  seen-parts cell handle h part c = let p = part_stands cell part handle h c in seen-from part p.0 p.1.0 p.1.1

-- ---- known handles

pub known_stands : (v : View) → IsCurrent v → (handle : ℕ) → IsKnown (standing v) handle → Stands v.layout (now v) (meant (standing v) handle) handle
known_stands v c handle h = known-to v.layout (now v) c.table _ handle (some_meant (cell_at v.layout (now v) v.layout.rows handle) h)

pub stands_known : (v : View) → IsCurrent v → (cell : CellTree) (handle : ℕ) → Stands v.layout (now v) cell handle → IsKnown (standing v) handle × (meant (standing v) handle ≡ cell)
stands_known v c cell handle h = let e = known-from v.layout (now v) c.table cell handle h in (is_some_from _ cell e, ap (λ (o : Option CellTree). unwrap_or o nil) e)

pub same_handles : (v : View) → IsCurrent v → (one other : ℕ) → IsKnown (standing v) one → IsKnown (standing v) other → meant (standing v) one ≡ meant (standing v) other → one ≡ other
same_handles v c one other h k e =
    handle_unique v.layout (now v) c.table (meant (standing v) other) one other (subst (λ x. Stands v.layout (now v) x one) e (known_stands v c one h)) (known_stands v c other k)

-- ---- what is true of a pass as a store

made_stands : (l : Layout) (words : List ℕ) (row : ℕ) (cells : List CellTree) (cell : CellTree) → AreMade l words row cells → Contains cells cell → (r : ℕ) × (row ≤ r) × Stands l words cell (suc r)
made_stands l words row [] cell made h = absurd (omega (arith, h.1))
made_stands l words row (first ∷ cells) cell made h = ⊎_elim
    (λ a. (row, omega arith, subst (λ x. Stands l words x (suc row)) (only_one first cell a) made.0))
    (λ b. let m = made_stands l words (suc row) cells cell made.1 b in let less = m.1 in (m.0, omega (arith, less), m.2))
    (Contains-append_cases (first ∷ []) cells cell h)

made_once : (l : Layout) (words : List ℕ) → IsTable l words → (row : ℕ) (cells : List CellTree) → AreMade l words row cells → HasNoRepeats cells
made_once l words t row [] made = tt
made_once l words t row (first ∷ cells) made = (
  λ h. let m = made_stands l words (suc row) cells first made.1 h in let e = handle_unique l words t first (suc row) (suc m.0) made.0 m.2 in let less = m.1 in omega (arith, e, less),
  made_once l words t (suc row) cells made.1,
)

pub sound : (v : View) → IsCurrent v → IsLayout v.layout → IsSound (standing v)
sound v c layout = let l = v.layout in let words = now v in let t = c.table in record {
  nil_known = known-from l words t nil 0 refl;
  finite = λ handle h. let s = handle-le l words t _ handle (known_stands v c handle h) in let r = layout.rows in omega (arith, s, r);
  injective = λ one other cell h k. handle_unique l words t cell one other (known-to l words t cell one h) (known-to l words t cell other k);
  made_held = λ cell h. let m = made_stands l words v.owned.from v.owned.made cell c.range.made h in (suc m.0, known-from l words t cell (suc m.0) m.2);
  made_once = made_once l words t v.owned.from v.owned.made c.range.made;
  made_within = c.range.count;
  undrawn = λ _. refl;
  blockless = λ _. refl;
  undry = λ _. refl;
  pays_blocks = no_blocks-paid (standing v) (made_once l words t v.owned.from v.owned.made c.range.made) refl refl;
  uses_blocks = λ _. omega arith;
  seen_known = λ handle cell h some. seen-from l words t cell handle (known-to l words t cell handle h) some;
  seen_closed = λ cell h. let s = seen-to l words t cell h in seen-parts l words t cell s.0 s.1.0;
  seen_without_nil = λ h. let s = seen-to l words t nil h in s.1.1 refl;
  memo_map = tt;
  memo_seen = tt;
}

-- ---- what a pass stands for

pub keeps : (v w : View) → IsCurrent v → Follows v w → Keeps (standing v) (standing w)
keeps v w c f handle cell e = known-from w.layout (now w) f.current.table cell handle (Stands-later v w cell handle c f (known-to v.layout (now v) c.table cell handle e))

pub seen-grows : (v w : View) → IsCurrent v → Follows v w → IsWithin (cells_below v.layout (now v) v.layout.rows) (cells_below w.layout (now w) w.layout.rows)
seen-grows v w c f cell h = let s = seen-to v.layout (now v) c.table cell h in seen-from w.layout (now w) f.current.table cell s.0 (Stands-later v w cell s.0 c f s.1.0) s.1.1

-- what lasts where no row comes from a pool
lasts : (v w : View) → Keeps (standing v) (standing w) → IsWithin (cells_below v.layout (now v) v.layout.rows) (cells_below w.layout (now w) w.layout.rows) → w.owned.quota ≡ v.owned.quota → IsCurrent w → IsLayout w.layout
    → Lasts (standing v) (standing w)
lasts v w known seen quota c layout = record {
  known = known;
  seen = seen;
  quota = quota-same (standing v) (standing w) refl quota refl refl;
  meets = refl;
  lives = refl;
  identity = refl;
  sound = λ _. sound w c layout;
}

follows_lasts : (v w : View) → IsCurrent v → IsLayout v.layout → Follows v w → Lasts (standing v) (standing w)
follows_lasts v w c layout f = lasts v w (keeps v w c f) (seen-grows v w c f) f.quota f.current (subst IsLayout (sym f.layout) layout)

-- where no row was made, the store was only read
pub follows_reads : (v w : View) → IsCurrent v → IsLayout v.layout → Follows v w → w.owned.made ≡ v.owned.made → StoreReads (standing v) (standing w)
follows_reads v w c layout f made = record {
  stays = record { lasts = follows_lasts v w c layout f; made = made; drawn = refl; quota = f.quota; blocks = refl; dry = refl };
  memo = refl;
  missed = refl;
}

pub puts : (p q : PassView) (cell : CellTree) (answer : Result Handle Full) → IsCurrent p.view → IsLayout p.view.layout → Seeks p q cell → Answers p q cell answer → Puts (standing p.view) (standing q.view) cell answer
puts p q cell answer c layout s a = record {
  adds = adds-one (standing p.view) (standing q.view) cell (follows_lasts p.view q.view c layout s.follows) s.made refl refl refl;
  once = once-made (standing p.view) (standing q.view) cell s.made;
  ok = by_ok answer a.0;
  full = by_full answer a.1;
}
  where
    by_ok : (r : Result Handle Full) → IfOk r (λ handle. StandsFor q handle cell × IsUnnoted p q) → IfOk r (λ handle. Tells (standing q.view) handle.0 cell)
    by_ok (Ok handle) h = record { stands = known-from q.view.layout (now q.view) s.follows.current.table cell handle.0 h.0; seen = seen-parts q.view.layout (now q.view) s.follows.current.table cell handle.0 h.0 }
    by_ok (Err full) h = tt

    by_full : (r : Result Handle Full) → OnErr r (IsSpentFor p q cell) → OnErr r (IsFullFor (standing q.view) cell)
    by_full (Ok handle) h = tt
    by_full (Err full) h = record {
      used = h.used;
      unknown = λ e. h.absent e.0 (known-to q.view.layout (now q.view) s.follows.current.table cell e.0 e.1);
      unseen = λ e. let x = seen-to q.view.layout (now q.view) s.follows.current.table cell e in h.absent x.0 x.1.0;
    }

pub store_reads : (p q : PassView) → IsCurrent p.view → IsLayout p.view.layout → Reads p q → StoreReads (standing p.view) (standing q.view)
store_reads p q c layout r = follows_reads p.view q.view c layout r.follows r.made

-- ---- looking at a cell

-- the three words of the row of a known handle
pub look_fits : (p q : PassView) (handle : ℕ) (c : Content) → IsCurrent p.view → Reads p q → IsKnown (standing p.view) handle → 1 ≤ handle → c ≡ content q.view.layout (now q.view) (handle - 1)
    → Fits q.view.layout (now q.view) (meant (standing p.view) handle) c
look_fits p q zero c current r h some e = absurd (omega (arith, some))
look_fits p q (suc row) c current r h some e =
    let s = Stands-later p.view q.view _ (suc row) current r.follows (known_stands p.view current (suc row) h) in
    let f = (row_of q.view.layout (now q.view) _ row s).1 in
    let same : suc row - 1 ≡ row = omega arith in
    subst (Fits q.view.layout (now q.view) (meant (standing p.view) (suc row))) (sym (e ∙ ap (content q.view.layout (now q.view)) same)) f

pub look_published : (v : View) → IsCurrent v → (handle : ℕ) → IsKnown (standing v) handle → 1 ≤ handle → IsPublished v.layout (now v) (handle - 1)
look_published v c handle h some = (depth_at v.layout (now v) _ handle (known_stands v c handle h) some).0

pub number_again : (l : Layout) (words : List ℕ) (cell : CellTree) (c : Content) (n : ℤ) → Fits l words cell c → c.tag ≡ 0 → n ≡ cast_signed w64 c.left → cell ≡ number (cast_signed w64 (cast_unsigned w64 n))
number_again l words nil c n f e h = absurd f
number_again l words (number m) c n f e h =
    let same : n ≡ m = h ∙ (ap (cast_signed w64) (ap (λ (x : Content). x.left) f.0) ∙ f.1) in
    ap number (sym f.1 ∙ ap (λ k. cast_signed w64 (cast_unsigned w64 k)) (sym same))
number_again l words (pair tag left right) c n f e h = let some = f.3 in absurd (omega (arith, f.0, some, e))

-- the parts of a pair, which are known
pub record IsPairOf (v : View) (cell : CellTree) (c : Content) : Type 0 where
  pub left : IsKnown (standing v) c.left
  pub right : IsKnown (standing v) c.right
  pub is : cell ≡ pair c.tag (meant (standing v) c.left) (meant (standing v) c.right)
  pub tag : c.tag ≤ 65535
  pub left_le : c.left ≤ v.layout.rows
  pub right_le : c.right ≤ v.layout.rows

pub pair_form : (v : View) (cell : CellTree) (c : Content) → IsCurrent v → Fits v.layout (now v) cell c → ¬ (c.tag ≡ 0) → IsPairOf v cell c
pair_form v nil c current f n = absurd f
pair_form v (number m) c current f n = absurd (n (ap (λ (x : Content). x.tag) f.0))
pair_form v (pair tag left right) c current f n =
    let a = stands_known v current left c.left f.1 in
    let b = stands_known v current right c.right f.2 in
    let most = f.4 in record {
      left = a.0;
      right = b.0;
      is = (λ i. pair (sym f.0 i) (sym a.1 i) (sym b.1 i));
      tag = omega (arith, f.0, most);
      left_le = handle-le v.layout (now v) current.table left c.left f.1;
      right_le = handle-le v.layout (now v) current.table right c.right f.2;
    }

pub nil_meant : (v : View) → IsCurrent v → (handle : ℕ) → handle ≡ 0 → meant (standing v) handle ≡ nil
nil_meant v c handle e = ap (λ h. meant (standing v) h) e ∙ (stands_known v c nil 0 refl).1

-- ---- meeting

keeps_grown : (v w : View) → IsCurrent v → IsCurrent w → w.layout ≡ v.layout → Grows v.layout (now v) (now w) → Keeps (standing v) (standing w)
keeps_grown v w c d e g handle cell h =
    known-from w.layout (now w) d.table cell handle (subst (λ l. Stands l (now w) cell handle) (sym e) (Stands-grown v.layout (now v) (now w) g cell handle (known-to v.layout (now v) c.table cell handle h)))

seen_grown : (v w : View) → IsCurrent v → IsCurrent w → w.layout ≡ v.layout → Grows v.layout (now v) (now w) → IsWithin (cells_below v.layout (now v) v.layout.rows) (cells_below w.layout (now w) w.layout.rows)
seen_grown v w c d e g cell h = let s = seen-to v.layout (now v) c.table cell h in
    seen-from w.layout (now w) d.table cell s.0 (subst (λ l. Stands l (now w) cell s.0) (sym e) (Stands-grown v.layout (now v) (now w) g cell s.0 s.1.0)) s.1.1

pub meets_mine : (p other q : PassView) → IsLayout p.view.layout → Meets p other q → StoreReads (standing p.view) (standing q.view)
meets_mine p other q layout m = let quota = ap (λ (o : Owned). o.quota) m.owned in record {
  stays = record {
    lasts = lasts p.view q.view (keeps_grown p.view q.view m.before m.current m.layout m.grown) (seen_grown p.view q.view m.before m.current m.layout m.grown) quota m.current (subst IsLayout (sym m.layout) layout);
    made = ap (λ (o : Owned). o.made) m.owned;
    drawn = refl;
    quota = quota;
    blocks = refl;
    dry = refl;
  };
  memo = refl;
  missed = refl;
}

pub meets_known : (p other q : PassView) → Meets p other q → Keeps (standing other.view) (standing q.view)
meets_known p other q m =
    keeps_grown other.view q.view m.before_too m.current (m.layout ∙ sym m.layout_too) (subst (λ l. Grows l (now other.view) (now q.view)) (sym m.layout_too) m.grown_too)

pub meets_seen : (p other q : PassView) → Meets p other q → IsWithin (cells_below other.view.layout (now other.view) other.view.layout.rows) (cells_below q.view.layout (now q.view) q.view.layout.rows)
meets_seen p other q m =
    seen_grown other.view q.view m.before_too m.current (m.layout ∙ sym m.layout_too) (subst (λ l. Grows l (now other.view) (now q.view)) (sym m.layout_too) m.grown_too)
