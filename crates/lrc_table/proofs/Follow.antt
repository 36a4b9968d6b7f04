-- Steps one after another.
use Rattle.std.proofs.Common.{◌≡◌, ℕ, zero, suc, ◌-◌, ◌<◌, ◌≤◌, List, get_or, refl, sym, ◌∙◌, ap, subst, arith}
use Rattle.lrc_store.specs.Cells.{CellTree, nil, number, pair}
use Rattle.lrc_rule.specs.declared.layout.Content.{Content}
use Rattle.lrc_rule.specs.declared.layout.Layout.{Layout}
use Rattle.lrc_rule.specs.Layout.{part_at}
use Rattle.lrc_rule.specs.Rows.{Grows, Stands, Fits, IsPassed, IsPublished, Names, IsTable, content, depth, part}
use Rattle.lrc_rule.specs.Views.{View, now, AllGrow}
use Rattle.lrc_rule.specs.Steps.{IsCurrent, Follows, Loads}
use Rattle.lrc_rule.proofs.Growth.{Grows-refl, AllGrow-trans, Stands-grown, Fits-grown, IsPassed-grown, published-grown}
use Rattle.lrc_rule.proofs.Unique.{row_of}
use Rattle.lrc_table.specs.Passes.{TableView, PassView, IsOf, Reads}

-- the words that a pass knew have grown to those that it knows
pub grown-from : (v w : View) → IsCurrent v → Follows v w → Grows v.layout (now v) (now w)
grown-from v w c f = let g = subst (λ past. AllGrow v.layout past (now w)) c.past f.grown in g.0

pub Follows-refl : (v : View) → IsCurrent v → Follows v v
Follows-refl v c = record { layout = refl; grown = subst (λ past. AllGrow v.layout past (now v)) (sym c.past) (Grows-refl v.layout (now v), tt); current = c; from = refl; quota = refl; memo_steps = refl }

pub Follows-trans : (u v w : View) → Follows u v → Follows v w → Follows u w
Follows-trans u v w f g = record {
  layout = g.layout ∙ f.layout;
  grown = AllGrow-trans u.layout u.learned.past (now v) (now w) f.grown (subst (λ l. Grows l (now v) (now w)) f.layout (grown-from v w f.current g));
  current = g.current;
  from = g.from ∙ f.from;
  quota = g.quota ∙ f.quota;
  memo_steps = g.memo_steps ∙ f.memo_steps;
}

pub Reads-refl : (p : PassView) → IsCurrent p.view → Reads p p
Reads-refl p c = record { table = refl; follows = Follows-refl p.view c; draft = refl; notes = refl; made = refl }

pub Reads-trans : (p q r : PassView) → Reads p q → Reads q r → Reads p r
Reads-trans p q r f g = record {
  table = g.table ∙ f.table;
  follows = Follows-trans p.view q.view r.view f.follows g.follows;
  draft = g.draft ∙ f.draft;
  notes = g.notes ∙ f.notes;
  made = g.made ∙ f.made;
}

pub IsOf-later : {M : Type 0} (p q : PassView) (t : TableView M) → q.table ≡ p.table → Follows p.view q.view → IsOf p t → IsOf q t
IsOf-later p q t e f h = (e ∙ h.0, f.layout ∙ h.1)

-- a part of a published row that was loaded is there still
pub part-later : (v w : View) (row k : ℕ) → IsCurrent v → Follows v w → IsPublished v.layout (now v) row → k < 4 → part w.layout (now w) row k ≡ part v.layout (now v) row k
part-later v w row k c f p small = ap (λ l. part l (now w) row k) f.layout ∙ (grown-from v w c f).parts row k p small

pub published-later : (v w : View) (row : ℕ) → IsCurrent v → Follows v w → IsPublished v.layout (now v) row → IsPublished w.layout (now w) row
published-later v w row c f p = subst (λ l. IsPublished l (now w) row) (sym f.layout) (published-grown v.layout (now v) (now w) (grown-from v w c f) row p)

pub names-later : (v w : View) (place row : ℕ) → IsCurrent v → Follows v w → Names v.layout (now v) place row → Names w.layout (now w) place row
names-later v w place row c f n = subst (λ l. Names l (now w) place row) (sym f.layout) ((grown-from v w c f).buckets place row n)

pub Stands-later : (v w : View) (cell : CellTree) (handle : ℕ) → IsCurrent v → Follows v w → Stands v.layout (now v) cell handle → Stands w.layout (now w) cell handle
Stands-later v w cell handle c f h = subst (λ l. Stands l (now w) cell handle) (sym f.layout) (Stands-grown v.layout (now v) (now w) (grown-from v w c f) cell handle h)

pub Fits-later : (v w : View) (cell : CellTree) (x : Content) → IsCurrent v → Follows v w → Fits v.layout (now v) cell x → Fits w.layout (now w) cell x
Fits-later v w cell x c f h = subst (λ l. Fits l (now w) cell x) (sym f.layout) (Fits-grown v.layout (now v) (now w) (grown-from v w c f) cell x h)

pub IsPassed-later : (v w : View) (x : Content) (steps : ℕ) → IsCurrent v → Follows v w → IsPassed v.layout (now v) x steps → IsPassed w.layout (now w) x steps
IsPassed-later v w x steps c f h = subst (λ l. IsPassed l (now w) x steps) (sym f.layout) (IsPassed-grown v.layout (now v) (now w) (grown-from v w c f) x steps h)

-- a published row is one that there is
pub row-below : (l : Layout) (words : List ℕ) → IsTable l words → (row : ℕ) → IsPublished l words row → row < l.rows
row-below l words t row p = let w = t.within p.0 p.1.0 in let e = p.1.1 in omega (arith, w, e)

-- a known handle is at most the number of rows
pub handle-le : (l : Layout) (words : List ℕ) → IsTable l words → (cell : CellTree) (handle : ℕ) → Stands l words cell handle → handle ≤ l.rows
handle-le l words t nil handle h = omega (arith, h)
handle-le l words t (number n) handle h = let b = row-below l words t h.row h.published in omega (arith, h.named, b)
handle-le l words t (pair tag left right) handle h = let b = row-below l words t h.row h.published in omega (arith, h.named, b)

pub loaded_part : (v w : View) (row k word value : ℕ) (l : Layout) → Loads v w word value → l ≡ w.layout → word ≡ part_at l row k → value ≡ part w.layout (now w) row k
loaded_part v w row k word value l h e at = h.found ∙ (ap (λ n. get_or (now w) n 0) at ∙ ap (λ m. part m (now w) row k) e)

pub loaded_content : (p q r s : PassView) (row tag left right : ℕ) → IsCurrent p.view → Reads p q → Reads q r → Reads r s → IsPublished p.view.layout (now p.view) row
    → tag ≡ part q.view.layout (now q.view) row 0 → left ≡ part r.view.layout (now r.view) row 1 → right ≡ part s.view.layout (now s.view) row 2
    → record { tag = tag; left = left; right = right } ≡ content s.view.layout (now s.view) row
loaded_content p q r s row tag left right c f g h published a b d =
    let once = published-later p.view q.view row c f.follows published in
    let twice = published-later q.view r.view row f.follows.current g.follows once in
    let x = a ∙ sym (part-later q.view s.view row 0 f.follows.current (Follows-trans q.view r.view s.view g.follows h.follows) once (omega arith)) in
    let y = b ∙ sym (part-later r.view s.view row 1 g.follows.current h.follows twice (omega arith)) in
    (λ i. record { tag = x i; left = y i; right = d i })

-- the depth of a known cell is the last word of its row
pub depth_at : (l : Layout) (words : List ℕ) (cell : CellTree) (handle : ℕ) → Stands l words cell handle → 1 ≤ handle → IsPublished l words (handle - 1) × (part l words (handle - 1) 3 ≡ depth cell)
depth_at l words cell zero h some = absurd (omega (arith, some))
depth_at l words cell (suc row) h some = let e : suc row - 1 ≡ row = omega arith in let r = row_of l words cell row h in
    subst (λ n. IsPublished l words n × (part l words n 3 ≡ depth cell)) (sym e) (r.0, r.2)

pub nil_at : (l : Layout) (words : List ℕ) (cell : CellTree) (handle : ℕ) → Stands l words cell handle → handle ≡ 0 → 0 ≡ depth cell
nil_at l words nil handle h e = refl
nil_at l words (number n) handle h e = absurd (omega (arith, h.named, e))
nil_at l words (pair tag left right) handle h e = absurd (omega (arith, h.named, e))
