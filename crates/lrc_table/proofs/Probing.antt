-- How a probe goes on, and how it ends.
use Rattle.std.proofs.lemmas.Bool.{false≢true}
use Rattle.std.proofs.Common.{Bool, true, false, ◌&&◌, eqb, eqb-true, eq-eqb, ◌≡◌, inl, inr, ⊎_elim, ℕ, zero, suc, ◌+◌, ◌-◌, ◌%◌, ◌<◌, max, List, [], ◌∷◌, ◌++◌, length, get_or, take, replicate, refl, sym, ◌∙◌, ap, subst, arith, append_assoc, append-nil, length-append}
use Rattle.std.specs.Prelude.{Result, Ok, Err}
use mathlib.Core.Logic.{dite}
use native.Mathlib.Decide.{dec_lt}
use Rattle.lrc_store.specs.Cells.{CellTree, nil, number, pair}
use Rattle.lrc_store.specs.declared.cells.Handle.{Handle}
use Rattle.lrc_table.specs.declared.probe.Claim.{Claim}
use Rattle.lrc_table.specs.declared.probe.Claim.TheVariants as claim
use Rattle.lrc_store.specs.declared.stores.Full.{Full}
use Rattle.lrc_rule.specs.declared.layout.Content.{Content}
use Rattle.lrc_rule.specs.declared.layout.Layout.{Layout}
use Rattle.lrc_rule.specs.Layout.{IsLayout, bucket_at}
use Rattle.lrc_rule.specs.Home.{home_of, place_on}
use Rattle.lrc_rule.specs.Rows.{Stands, Fits, IsPassed, IsOther, Names, bucket, content, depth}
use Rattle.lrc_rule.specs.Views.{View, now, next}
use Rattle.lrc_rule.specs.Steps.{IsCurrent, Follows, Loads, Notes, IsMade, Publishes, Exchanges, IsDraftOf}
use Rattle.lrc_rule.proofs.Unique.{Stands-from_content}
use Rattle.lrc_rule.proofs.Counts.{passed-le}
use Rattle.lrc_table.specs.Passes.{PassView, Reads, Seeks, AreNoted, Drafts, IsReady, IsOnPath, IsSpentFor, IsUnnoted, Claims, Answers, PassesBy}
use Rattle.lrc_table.specs.Standings.{NotesNone}
use Rattle.lrc_table.proofs.Follow.{Follows-refl, Follows-trans, published-later, names-later, Fits-later, IsPassed-later}

-- ---- the depth of a content

pub number_depth : (l : Layout) (words : List ℕ) (cell : CellTree) (c : Content) → Fits l words cell c → c.tag ≡ 0 → 1 ≡ depth cell
number_depth l words nil c f e = absurd f
number_depth l words (number n) c f e = refl
number_depth l words (pair tag left right) c f e = let some = f.3 in absurd (omega (arith, f.0, some, e))

-- two cells whose handles are the sides of a content
pub record Sides (l : Layout) (words : List ℕ) (cell : CellTree) (c : Content) : Type 0 where
  pub left : CellTree
  pub right : CellTree
  pub stands_left : Stands l words left c.left
  pub stands_right : Stands l words right c.right
  pub deep : depth cell ≡ suc (max (depth left) (depth right))

pub sides : (l : Layout) (words : List ℕ) (cell : CellTree) (c : Content) → Fits l words cell c → ¬ (c.tag ≡ 0) → Sides l words cell c
sides l words nil c f n = absurd f
sides l words (number m) c f n = absurd (n (ap (λ (x : Content). x.tag) f.0))
sides l words (pair tag left right) c f n = record { left = left; right = right; stands_left = f.1; stands_right = f.2; deep = refl }

-- ---- drafts

pub four_stored : (none one two three four : List ℕ) (a b c d : ℕ) → one ≡ take 0 none ++ a ∷ [] → two ≡ take 1 one ++ b ∷ [] → three ≡ take 2 two ++ c ∷ [] → four ≡ take 3 three ++ d ∷ []
    → four ≡ a ∷ b ∷ c ∷ d ∷ []
four_stored none one two three four a b c d e f g h =
    let x : two ≡ a ∷ b ∷ [] = f ∙ ap (λ (xs : List ℕ). take 1 xs ++ b ∷ []) e in
    let y : three ≡ a ∷ b ∷ c ∷ [] = g ∙ ap (λ (xs : List ℕ). take 2 xs ++ c ∷ []) x in
    h ∙ ap (λ (xs : List ℕ). take 3 xs ++ d ∷ []) y

-- ---- notes

pub notes-none : (cell : CellTree) (before after : List CellTree) → after ≡ before → AreNoted 0 cell before after
notes-none cell before after e = e ∙ sym (append-nil before)

replicate-add : (n m : ℕ) (cell : CellTree) → replicate (n + m) cell ≡ replicate n cell ++ replicate m cell
replicate-add zero m cell = ap (λ k. replicate k cell) (let e : 0 + m ≡ m = omega arith in e)
replicate-add (suc n) m cell = ap (λ k. replicate k cell) (let e : suc n + m ≡ suc (n + m) = omega arith in e) ∙ ap (λ xs. cell ∷ xs) (replicate-add n m cell)

pub notes-more : (n m : ℕ) (cell : CellTree) (a b c : List CellTree) → AreNoted n cell a b → AreNoted m cell b c → AreNoted (n + m) cell a c
notes-more n m cell a b c f g = g ∙ (ap (λ xs. xs ++ replicate m cell) f ∙ (append_assoc a (replicate n cell) (replicate m cell) ∙ ap (λ xs. a ++ xs) (sym (replicate-add n m cell))))

-- ---- seeking in steps

pub Seeks-from_reads : (p q : PassView) (cell : CellTree) → Reads p q → Seeks p q cell
Seeks-from_reads p q cell r = record { table = r.table; follows = r.follows; made = inl r.made; noted = (0, notes-none cell _ _ r.notes) }

pub Seeks-trans : (p q r : PassView) (cell : CellTree) → Seeks p q cell → q.view.owned.made ≡ p.view.owned.made → Seeks q r cell → Seeks p r cell
Seeks-trans p q r cell f same g = record {
  table = g.table ∙ f.table;
  follows = Follows-trans p.view q.view r.view f.follows g.follows;
  made = ⊎_elim (λ e. inl (e ∙ same)) (λ e. inr (e ∙ ap (λ xs. xs ++ cell ∷ []) same)) g.made;
  noted = (f.noted.0 + g.noted.0, notes-more f.noted.0 g.noted.0 cell _ _ _ f.noted.1 g.noted.1);
}

pub Seeks-reads : (p q r : PassView) (cell : CellTree) → Seeks p q cell → Reads q r → Seeks p r cell
Seeks-reads p q r cell f g = record {
  table = g.table ∙ f.table;
  follows = Follows-trans p.view q.view r.view f.follows g.follows;
  made = ⊎_elim (λ e. inl (g.made ∙ e)) (λ e. inr (g.made ∙ e)) f.made;
  noted = (f.noted.0, g.notes ∙ f.noted.1);
}

pub IsSpentFor-later : (p q r : PassView) (cell : CellTree) → Seeks p q cell → q.view.owned.made ≡ p.view.owned.made → IsSpentFor q r cell → IsSpentFor p r cell
IsSpentFor-later p q r cell f same s = record {
  used = s.used;
  made = s.made ∙ same;
  absent = s.absent;
  noted = (
    f.noted.0 + s.noted.0,
    subst (λ n. AreNoted n cell p.view.learned.notes r.view.learned.notes) (let e : f.noted.0 + suc s.noted.0 ≡ suc (f.noted.0 + s.noted.0) = omega arith in e)
        (notes-more f.noted.0 (suc s.noted.0) cell _ _ _ f.noted.1 s.noted.1),
  );
}

pub IsUnnoted-trans : (p q r : PassView) → Follows p.view q.view → q.view.owned.made ≡ p.view.owned.made → IsUnnoted p q → IsUnnoted q r → IsUnnoted p r
IsUnnoted-trans p q r f same h k used = k (ap length same ∙ (used ∙ sym f.quota)) ∙ h used

-- a pass that has a row left is none that may not note
pub IsUnnoted-room : (p q : PassView) → length p.view.owned.made < p.view.owned.quota → IsUnnoted p q
IsUnnoted-room p q room used = absurd (omega (arith, room, used))

pub Answers-later : (p q r : PassView) (cell : CellTree) (answer : Result Handle Full) → Seeks p q cell → q.view.owned.made ≡ p.view.owned.made → IsUnnoted p q → Answers q r cell answer → Answers p r cell answer
Answers-later p q r cell (Ok handle) f same h a = ((a.0.0, IsUnnoted-trans p q r f.follows same h a.0.1), tt)
Answers-later p q r cell (Err full) f same h a = (tt, IsSpentFor-later p q r cell f same a.1)

pub Answers-unnoted : (p q : PassView) (cell : CellTree) (answer : Result Handle Full) → Answers p q cell answer → NotesNone p.view q.view answer
Answers-unnoted p q cell (Ok handle) a used = a.0.1 used
Answers-unnoted p q cell (Err full) a used = tt

-- ---- publishing

drafted_after : (p q : PassView) (cell : CellTree) (c : Content) (place : ℕ) → IsCurrent p.view → IsOnPath p.view cell c place → Drafts p q c (depth cell) → IsDraftOf q.view.layout (now q.view) q.view.learned.draft cell
drafted_after p q cell c place current path d = record { content = c; fits = Fits-later p.view q.view cell c current d.follows path.fits; whole = d.draft }

pub ready_after : (p q : PassView) (cell : CellTree) (c : Content) (place : ℕ) → IsCurrent p.view → IsOnPath p.view cell c place → Drafts p q c (depth cell) → IsReady q.view place
ready_after p q cell c place current path d =
    let e = d.follows.layout in record {
      cell = cell;
      drafted = record { content = c; fits = Fits-later p.view q.view cell c current d.follows path.fits; whole = d.draft };
      steps = path.steps;
      few = subst (λ l. path.steps < l.buckets) (sym e) path.few;
      at = path.at ∙ ap (λ l. place_on l c path.steps) (sym e);
      passed = IsPassed-later p.view q.view c path.steps current d.follows path.passed;
    }

pub made_after : (p q r : PassView) (cell : CellTree) (c : Content) (place found : ℕ) → IsCurrent p.view → IsOnPath p.view cell c place → Drafts p q c (depth cell) → Exchanges q.view r.view (bucket_at r.view.layout place) found → found ≡ 0
    → IsMade q.view r.view cell
made_after p q r cell c place found current path d x e =
    let h = subst (Publishes q.view r.view (bucket_at r.view.layout place)) e x.publishes in
    h cell (drafted_after p q cell c place current path d)

kept_after : (v w : View) (word found : ℕ) → Publishes v w word found → ¬ (found ≡ 0) → w.owned.made ≡ v.owned.made
kept_after v w word zero p n = absurd (n refl)
kept_after v w word (suc found) p n = p.2

found_after : (v w : View) (word found : ℕ) → Publishes v w word found → ¬ (found ≡ 0) → found ≡ get_or (now w) word 0
found_after v w word zero p n = absurd (n refl)
found_after v w word (suc found) p n = p.0

pub exchanged_own : (p q r : PassView) (cell : CellTree) (c : Content) (place found : ℕ) → IsCurrent p.view → IsOnPath p.view cell c place → Drafts p q c (depth cell) → r.table ≡ q.table → Exchanges q.view r.view (bucket_at r.view.layout place) found → found ≡ 0
    → Seeks p r cell
exchanged_own p q r cell c place found current path d table x e = let m = made_after p q r cell c place found current path d x e in record {
  table = table ∙ d.table;
  follows = Follows-trans p.view q.view r.view d.follows x.follows;
  made = inr (m.made ∙ ap (λ xs. xs ++ cell ∷ []) d.made);
  noted = (0, notes-none cell _ _ (x.notes ∙ d.notes));
}

pub own_stands : (p q r : PassView) (cell : CellTree) (c : Content) (place found handle : ℕ) → IsCurrent p.view → IsOnPath p.view cell c place → Drafts p q c (depth cell) → Exchanges q.view r.view (bucket_at r.view.layout place) found → found ≡ 0
    → handle ≡ next r.view → Stands r.view.layout (now r.view) cell handle
own_stands p q r cell c place found handle current path d x e last = let m = made_after p q r cell c place found current path d x e in
    let long = ap length m.made in let more = length-append q.view.owned.made (cell ∷ []) in let from = x.follows.from in
    subst (Stands r.view.layout (now r.view) cell) (let h : suc (next q.view) ≡ handle = omega (arith, long, more, from, last) in h) m.stands

pub exchanged_lost : (p q r : PassView) (cell : CellTree) (c : Content) (place found : ℕ) → Drafts p q c (depth cell) → r.table ≡ q.table → Exchanges q.view r.view (bucket_at r.view.layout place) found → ¬ (found ≡ 0) → Seeks p r cell
exchanged_lost p q r cell c place found d table x n = record {
  table = table ∙ d.table;
  follows = Follows-trans p.view q.view r.view d.follows x.follows;
  made = inl (kept_after q.view r.view _ found x.publishes n ∙ d.made);
  noted = (0, notes-none cell _ _ (x.notes ∙ d.notes));
}

-- the word of a full bucket names a row
pub named_by : (v : View) (place found : ℕ) → place < v.layout.buckets → found ≡ bucket v.layout (now v) place → ¬ (found ≡ 0) → (row : ℕ) × (found ≡ suc row) × Names v.layout (now v) place row
named_by v place zero inside e n = absurd (n refl)
named_by v place (suc row) inside e n = (row, refl, (inside, sym e))

pub lost_names : (p q r : PassView) (c : Content) (deep place found : ℕ) → Drafts p q c deep → Exchanges q.view r.view (bucket_at r.view.layout place) found → ¬ (found ≡ 0) → place < r.view.layout.buckets
    → length p.view.owned.made < p.view.owned.quota → ((row : ℕ) × (found ≡ suc row) × Names r.view.layout (now r.view) place row) × (r.view.owned.made ≡ p.view.owned.made) × IsUnnoted p r
lost_names p q r c deep place found d x n inside room = (named_by r.view place found inside (found_after q.view r.view _ found x.publishes n) n, kept_after q.view r.view _ found x.publishes n ∙ d.made, IsUnnoted-room p r room)

-- ---- one place

pub noted_once : (v w : View) (cell : CellTree) (found : ℕ) → Notes v w cell found → (count : ℕ) × AreNoted count cell v.learned.notes w.learned.notes
noted_once v w cell zero h = (1, h.1)
noted_once v w cell (suc found) h = (0, notes-none cell _ _ h)

pub full_unnoted : (v w : View) (cell : CellTree) (found : ℕ) → Notes v w cell found → ¬ (found ≡ 0) → w.learned.notes ≡ v.learned.notes
full_unnoted v w cell zero h n = absurd (n refl)
full_unnoted v w cell (suc found) h n = h

pub Seeks-loads : (p q : PassView) (cell : CellTree) (word found : ℕ) → q.table ≡ p.table → Loads p.view q.view word found → Notes p.view q.view cell found → Seeks p q cell
Seeks-loads p q cell word found table h n = record { table = table; follows = h.follows; made = inl h.made; noted = noted_once p.view q.view cell found n }

pub spent_at : (p q : PassView) (cell : CellTree) (word found : ℕ) → Loads p.view q.view word found → Notes p.view q.view cell found → found ≡ 0 → length q.view.owned.made ≡ q.view.owned.quota → IsSpentFor p q cell
spent_at p q cell word found h n e used = let m = subst (Notes p.view q.view cell) e n in record { used = used; made = h.made; absent = m.0; noted = (0, m.1) }

pub path_later : (v w : View) (cell : CellTree) (c : Content) (place : ℕ) → IsCurrent v → Follows v w → IsOnPath v cell c place → IsOnPath w cell c place
path_later v w cell c place current f path =
    let e = f.layout in record {
      fits = Fits-later v w cell c current f path.fits;
      steps = path.steps;
      few = subst (λ l. path.steps < l.buckets) (sym e) path.few;
      at = path.at ∙ ap (λ l. place_on l c path.steps) (sym e);
      passed = IsPassed-later v w c path.steps current f path.passed;
    }

pub Claims-later : (p q r : PassView) (cell : CellTree) (place : ℕ) (c : Claim) → Seeks p q cell → q.view.owned.made ≡ p.view.owned.made → IsUnnoted p r → Claims q r cell place c → Claims p r cell place c
Claims-later p q r cell place claim.Full f same h s = IsSpentFor-later p q r cell f same s
Claims-later p q r cell place (claim.Own handle) f same h s = (s.0, h)
Claims-later p q r cell place (claim.Taken handle) f same h s = (s.0, s.1 ∙ same, h)

-- the row before a handle
pub taken_published : (l : Layout) (words : List ℕ) (place handle : ℕ) → ((row : ℕ) × (handle ≡ suc row) × Names l words place row) → Names l words place (handle - 1)
taken_published l words place handle h = subst (Names l words place) (let e : h.0 ≡ handle - 1 = (let f = h.1 in omega (arith, f)) in e) h.2

pub taken_stands : (q r : PassView) (cell : CellTree) (c found : Content) (place handle : ℕ) → Reads q r → IsCurrent q.view → ((row : ℕ) × (handle ≡ suc row) × Names q.view.layout (now q.view) place row) → Fits r.view.layout (now r.view) cell c
    → found ≡ content r.view.layout (now r.view) (handle - 1) → found ≡ c → Stands r.view.layout (now r.view) cell handle
taken_stands q r cell c found place handle reads current h fits read same =
    let n = taken_published q.view.layout (now q.view) place handle h in
    let p = published-later q.view r.view (handle - 1) current reads.follows (place, n) in
    let e : suc (handle - 1) ≡ handle = (let f = h.1 in omega (arith, f)) in
    subst (Stands r.view.layout (now r.view) cell) e
    (Stands-from_content r.view.layout (now r.view) reads.follows.current.table cell (handle - 1) p (subst (Fits r.view.layout (now r.view) cell) (sym same ∙ read) fits))

pub taken_other : (q r : PassView) (c found : Content) (place handle : ℕ) → Reads q r → IsCurrent q.view → ((row : ℕ) × (handle ≡ suc row) × Names q.view.layout (now q.view) place row)
    → found ≡ content r.view.layout (now r.view) (handle - 1) → ¬ (found ≡ c) → IsOther r.view.layout (now r.view) c place
taken_other q r c found place handle reads current h read differ =
    let n = taken_published q.view.layout (now q.view) place handle h in
    (handle - 1, names-later q.view r.view place (handle - 1) current reads.follows n, λ e. differ (read ∙ e))

-- ---- comparing contents

and_true : (a b : Bool) → true ≡ (a && b) → (true ≡ a) × (true ≡ b)
and_true true b e = (refl, e)
and_true false b e = absurd (false≢true (sym e))

pub same_content : (c d : Content) → true ≡ (eqb c.tag d.tag && (eqb c.left d.left && eqb c.right d.right)) → c ≡ d
same_content c d e =
    let x = and_true (eqb c.tag d.tag) _ e in
    let y = and_true (eqb c.left d.left) (eqb c.right d.right) x.1 in
    let t = eqb-true c.tag d.tag (sym x.0) in let l = eqb-true c.left d.left (sym y.0) in let r = eqb-true c.right d.right (sym y.1) in
    (λ i. record { tag = t i; left = l i; right = r i })

self_true : (c : Content) → eqb c.tag c.tag && (eqb c.left c.left && eqb c.right c.right) ≡ true
self_true c = ap (λ b. b && (eqb c.left c.left && eqb c.right c.right)) (eq-eqb c.tag c.tag refl) ∙ (ap (λ b. b && eqb c.right c.right) (eq-eqb c.left c.left refl) ∙ eq-eqb c.right c.right refl)

pub other_content : (c d : Content) → false ≡ (eqb c.tag d.tag && (eqb c.left d.left && eqb c.right d.right)) → ¬ (c ≡ d)
other_content c d e same = false≢true (e ∙ subst (λ x. eqb c.tag x.tag && (eqb c.left x.left && eqb c.right x.right) ≡ true) same (self_true c))

-- ---- a whole path

-- so many places of the path were tried, which hold others, and no row was made
pub record Tried (p q : PassView) (cell : CellTree) (c : Content) (steps : ℕ) : Type 0 where
  pub seeks : Seeks p q cell
  pub made : q.view.owned.made ≡ p.view.owned.made
  pub unnoted : IsUnnoted p q
  pub fits : Fits q.view.layout (now q.view) cell c
  pub passed : IsPassed q.view.layout (now q.view) c steps

pub Tried-none : (p : PassView) (cell : CellTree) (c : Content) → IsCurrent p.view → Fits p.view.layout (now p.view) cell c → Tried p p cell c 0
Tried-none p cell c current fits = record {
  seeks = record { table = refl; follows = Follows-refl p.view current; made = inl refl; noted = (0, notes-none cell _ _ refl) };
  made = refl;
  unnoted = λ _. refl;
  fits = fits;
  passed = λ i small. absurd (omega (arith, small));
}

passed-more : (l : Layout) (words : List ℕ) (c : Content) (steps place : ℕ) → IsPassed l words c steps → place ≡ place_on l c steps → IsOther l words c place → IsPassed l words c (suc steps)
passed-more l words c steps place h at other i small = dite (dec_lt i steps) (λ less. h i less)
    (λ n. let e : steps ≡ i = omega (arith, small, n) in subst (λ j. IsOther l words c (place_on l c j)) e (subst (IsOther l words c) at other))

pub Tried-more : (p q r : PassView) (cell : CellTree) (c : Content) (steps place : ℕ) → Tried p q cell c steps → place ≡ place_on q.view.layout c steps → Seeks q r cell → PassesBy q r c place → Tried p r cell c (suc steps)
Tried-more p q r cell c steps place t at s by = let f = s.follows in let current = t.seeks.follows.current in record {
  seeks = Seeks-trans p q r cell t.seeks t.made s;
  made = by.1 ∙ t.made;
  unnoted = IsUnnoted-trans p q r t.seeks.follows t.made t.unnoted by.2;
  fits = Fits-later q.view r.view cell c current f t.fits;
  passed = passed-more r.view.layout (now r.view) c steps place (IsPassed-later q.view r.view c steps current f t.passed) (at ∙ ap (λ l. place_on l c steps) (sym f.layout)) by.0;
}

-- not all buckets hold others
pub Tried-ends : (p q : PassView) (cell : CellTree) (c : Content) (steps : ℕ) → Tried p q cell c steps → steps ≡ q.view.layout.buckets → IsLayout q.view.layout → ⊥
Tried-ends p q cell c steps t e h =
    let f = t.seeks.follows in
    let few = passed-le q.view.layout (now q.view) f.current.table c steps (omega (arith, e)) t.passed in
    let some = h.some_row in
    let twice = h.buckets.1 in
    omega (arith, few, some, twice, e)

pub place_is : (l : Layout) (c : Content) (home steps place n wide : ℕ) → place ≡ (home + steps) % n → home ≡ home_of c.tag c.left c.right wide → wide ≡ n → n ≡ l.buckets → place ≡ place_on l c steps
place_is l c home steps place n wide e f g h = e ∙ (ap (λ x. (x + steps) % n) (f ∙ ap (home_of c.tag c.left c.right) g) ∙ ap (λ x. (home_of c.tag c.left c.right x + steps) % x) h)
