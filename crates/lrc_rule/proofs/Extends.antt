-- A store into a row that is not published, one into a memo word, and a row that is published, keep what is true of a table.
use Rattle.std.proofs.Common.{◌≡◌, ◌≢◌, ◌⊎◌, inl, inr, ℕ, suc, ◌<◌, ◌≤◌, List, length, set, sym, ◌∙◌, ap, subst, arith, length-set, get_or-set_same, get_or-set_other}
use mathlib.Core.Logic.{dite}
use native.Mathlib.Decide.{ℕ_discrete}
use Rattle.lrc_store.specs.Cells.{CellTree}
use Rattle.lrc_rule.specs.declared.layout.Content.{Content}
use Rattle.lrc_rule.specs.declared.layout.Layout.{Layout}
use Rattle.lrc_rule.specs.Layout.{HasRoom, bucket_at, part_at, memo_at}
use Rattle.lrc_rule.specs.Rows.{bucket, part, content, Names, IsPublished, depth, Stands, Fits, IsPassed, IsTable, Grows}
use Rattle.lrc_rule.specs.Memo.{Relation, Reach, memo, IsMemoWord, IsMemo}
use Rattle.lrc_rule.specs.Home.{place_on}
use Rattle.lrc_rule.proofs.Growth.{content_is, content-grown, Stands-grown, Fits-grown, IsPassed-grown, IsMemoWord-grown}
use Rattle.lrc_rule.proofs.Places.{same_bucket, same_part, same_memo, bucket_no_part, bucket_no_memo, part_no_memo, bucket-within, part-within, memo-within}
use Rattle.lrc_rule.proofs.Unique.{Stands-from_row, published-from_named}

-- words in which buckets and published rows are as they were
kept-table : (l : Layout) (words after : List ℕ) → IsTable l words → HasRoom l (length after) → ((place : ℕ) → place < l.buckets → bucket l after place ≡ bucket l words place) → Grows l words after → IsTable l after
kept-table l words after t room same g = record {
  whole = room;
  within = λ place less. subst (λ n. n ≤ l.rows) (sym (same place less)) (t.within place less);
  once = λ one other named h k. t.once one other named (h.0, sym (same one h.0) ∙ h.1) (k.0, sym (same other k.0) ∙ k.1);
  standing = λ row h. let s = t.standing row (h.0, (h.1.0, sym (same h.0 h.1.0) ∙ h.1.1)) in (s.0, Stands-grown l words after g s.0 (suc row) s.1);
  reached = λ place row h.
      let k : Names l words place row = (h.0, sym (same place h.0) ∙ h.1) in
      let r = t.reached place row k in
      subst (λ c. (steps : ℕ) × (steps < l.buckets) × (place ≡ place_on l c steps) × IsPassed l after c steps) (sym (content-grown l words after g row (place, k)))
      (r.0, r.1, r.2, IsPassed-grown l words after g _ r.0 r.3);
}

-- ---- a store into a row that is not published

module _ (l : Layout) (words : List ℕ) (t : IsTable l words) (row k value : ℕ) (small : k < 4) (there : row < l.rows) (unpublished : ¬ IsPublished l words row) where
  abbrev stored_words : List ℕ
  stored_words = set words (part_at l row k) value

  pub store-part_same : part l stored_words row k ≡ value
  store-part_same = get_or-set_same words (part_at l row k) value 0 (part-within l (length words) row k t.whole there small)

  pub store-part_other : (other j : ℕ) → j < 4 → (row ≡ other → k ≡ j → ⊥) → part l stored_words other j ≡ part l words other j
  store-part_other other j less differ = get_or-set_other words (part_at l row k) (part_at l other j) value 0 (λ e. let s = same_part l row k other j small less (sym e) in differ s.0 s.1)

  store-bucket : (place : ℕ) → place < l.buckets → bucket l stored_words place ≡ bucket l words place
  store-bucket place less = get_or-set_other words (part_at l row k) (bucket_at l place) value 0 (bucket_no_part l place row k less)

  pub store-published : (other : ℕ) → IsPublished l stored_words other → IsPublished l words other
  store-published other h = (h.0, (h.1.0, sym (store-bucket h.0 h.1.0) ∙ h.1.1))

  pub store-grows : Grows l words stored_words
  store-grows = record {
    buckets = λ place other h. (h.0, store-bucket place h.0 ∙ h.1);
    parts = λ other j h less. store-part_other other j less (λ e _. unpublished (subst (IsPublished l words) (sym e) h));
  }

  pub store-table : IsTable l stored_words
  store-table = kept-table l words stored_words t (length-set words (part_at l row k) value ∙ t.whole) store-bucket store-grows

  pub store-memo : (place : ℕ) → place < l.memo → memo l stored_words place ≡ memo l words place
  store-memo place less = get_or-set_other words (part_at l row k) (memo_at l place) value 0 (λ e. part_no_memo l row k place there small (sym e))

-- ---- a store into a memo word

module _ (l : Layout) (words : List ℕ) (t : IsTable l words) (place value : ℕ) (small : place < l.memo) where
  abbrev remembered_words : List ℕ
  remembered_words = set words (memo_at l place) value

  memo_same : memo l remembered_words place ≡ value
  memo_same = get_or-set_same words (memo_at l place) value 0 (memo-within l (length words) place t.whole small)

  memo_other : (other : ℕ) → other ≢ place → memo l remembered_words other ≡ memo l words other
  memo_other other n = get_or-set_other words (memo_at l place) (memo_at l other) value 0 (λ e. n (same_memo l other place e))

  memo-bucket : (other : ℕ) → other < l.buckets → bucket l remembered_words other ≡ bucket l words other
  memo-bucket other less = get_or-set_other words (memo_at l place) (bucket_at l other) value 0 (bucket_no_memo l other place less)

  pub memo-part : (row k : ℕ) → row < l.rows → k < 4 → part l remembered_words row k ≡ part l words row k
  memo-part row k there less = get_or-set_other words (memo_at l place) (part_at l row k) value 0 (part_no_memo l row k place there less)

  pub memo-published : (row : ℕ) → IsPublished l remembered_words row → IsPublished l words row
  memo-published row h = (h.0, (h.1.0, sym (memo-bucket h.0 h.1.0) ∙ h.1.1))

  pub memo-grows : Grows l words remembered_words
  memo-grows = record {
    buckets = λ other row h. (h.0, memo-bucket other h.0 ∙ h.1);
    parts = λ row k h less. memo-part row k (published-from_named l words t row h) less;
  }

  pub memo-table : IsTable l remembered_words
  memo-table = kept-table l words remembered_words t (length-set words (memo_at l place) value ∙ t.whole) memo-bucket memo-grows

  pub memo-words : (allows : Relation) (reach : Reach) → IsMemo allows reach l words → IsMemoWord allows reach l words value → IsMemo allows reach l remembered_words
  memo-words allows reach m h other less = dite (ℕ_discrete other place)
      (λ e. subst (IsMemoWord allows reach l remembered_words) (sym (ap (memo l remembered_words) e ∙ memo_same)) (IsMemoWord-grown allows reach l words remembered_words memo-grows value h))
      (λ n. subst (IsMemoWord allows reach l remembered_words) (sym (memo_other other n)) (IsMemoWord-grown allows reach l words remembered_words memo-grows (memo l words other) (m other less)))

-- ---- a row that is published

module _ (l : Layout) (words : List ℕ) (t : IsTable l words) (row steps : ℕ) (cell : CellTree) (c : Content) (is : content l words row ≡ c) (there : row < l.rows) (unpublished : ¬ IsPublished l words row)
    (few : steps < l.buckets) (empty : bucket l words (place_on l c steps) ≡ 0) (passed : IsPassed l words c steps)
    (fits : Fits l words cell c) (deep : part l words row 3 ≡ depth cell) (inside : place_on l c steps < l.buckets) where
  abbrev published_words : List ℕ
  published_words = set words (bucket_at l (place_on l c steps)) (suc row)

  pub publish-part : (other k : ℕ) → part l published_words other k ≡ part l words other k
  publish-part other k = get_or-set_other words (bucket_at l (place_on l c steps)) (part_at l other k) (suc row) 0 (λ e. bucket_no_part l (place_on l c steps) other k inside (sym e))

  content_stays : (other : ℕ) → content l published_words other ≡ content l words other
  content_stays other = content_is l words published_words other other (publish-part other 0) (publish-part other 1) (publish-part other 2)

  bucket_new : bucket l published_words (place_on l c steps) ≡ suc row
  bucket_new = get_or-set_same words (bucket_at l (place_on l c steps)) (suc row) 0 (bucket-within l (length words) (place_on l c steps) t.whole inside)

  bucket_other : (place : ℕ) → place ≢ place_on l c steps → bucket l published_words place ≡ bucket l words place
  bucket_other place n = get_or-set_other words (bucket_at l (place_on l c steps)) (bucket_at l place) (suc row) 0 (λ e. n (same_bucket l place (place_on l c steps) e))

  named_before : (place other : ℕ) → Names l published_words place other → ((place ≡ place_on l c steps) × (other ≡ row)) ⊎ Names l words place other
  named_before place other h = dite (ℕ_discrete place (place_on l c steps))
      (λ e. let f : suc other ≡ suc row = sym h.1 ∙ (ap (bucket l published_words) e ∙ bucket_new) in inl (e, omega (arith, f)))
      (λ n. inr (h.0, sym (bucket_other place n) ∙ h.1))

  pub publish-grows : Grows l words published_words
  publish-grows = record {
    buckets = λ place other h. (h.0, bucket_other place (λ e. let f : suc other ≡ 0 = sym h.1 ∙ (ap (bucket l words) e ∙ empty) in omega (arith, f)) ∙ h.1);
    parts = λ other k h less. publish-part other k;
  }

  pub publish-published : (other : ℕ) → IsPublished l published_words other → (other ≡ row) ⊎ IsPublished l words other
  publish-published other h = elim (named_before h.0 other h.1) [ inl e ↦ inl e.1 | inr g ↦ inr (h.0, g) ]

  pub publish-named : Names l published_words (place_on l c steps) row
  publish-named = (inside, bucket_new)

  pub publish-stands : Stands l published_words cell (suc row)
  publish-stands = Stands-from_row l published_words cell row (place_on l c steps, publish-named)
      (subst (Fits l published_words cell) (sym (content_stays row ∙ is)) (Fits-grown l words published_words publish-grows cell _ fits)) (publish-part row 3 ∙ deep)

  pub publish-table : IsTable l published_words
  publish-table = record {
    whole = length-set words (bucket_at l (place_on l c steps)) (suc row) ∙ t.whole;
    within = λ place less. dite (ℕ_discrete place (place_on l c steps))
        (λ e. subst (λ n. n ≤ l.rows) (sym (ap (bucket l published_words) e ∙ bucket_new)) there)
        (λ n. subst (λ m. m ≤ l.rows) (sym (bucket_other place n)) (t.within place less));
    once = λ one other named h g. elim (named_before one named h) [
      | inl a ↦ elim (named_before other named g) [
        | inl b ↦ a.0 ∙ sym b.0
        | inr b ↦ absurd (unpublished (subst (IsPublished l words) a.1 (other, b)))
      ]
      | inr a ↦ elim (named_before other named g) [
        | inl b ↦ absurd (unpublished (subst (IsPublished l words) b.1 (one, a)))
        | inr b ↦ t.once one other named a b
      ]
    ];
    standing = λ other h. elim (publish-published other h) [
      | inl e ↦ (cell, subst (λ r. Stands l published_words cell (suc r)) (sym e) publish-stands)
      | inr g ↦ let s = t.standing other g in (s.0, Stands-grown l words published_words publish-grows s.0 (suc other) s.1)
    ];
    reached = λ place other h.
        subst (λ d. (j : ℕ) × (j < l.buckets) × (place ≡ place_on l d j) × IsPassed l published_words d j) (sym (content_stays other)) (elim (named_before place other h) [
          | inl e ↦ subst (λ d. (j : ℕ) × (j < l.buckets) × (place ≡ place_on l d j) × IsPassed l published_words d j) (sym (ap (content l words) e.1 ∙ is))
              (steps, few, e.0, IsPassed-grown l words published_words publish-grows _ steps passed)
          | inr g ↦ let r = t.reached place other g in (r.0, r.1, r.2, IsPassed-grown l words published_words publish-grows _ r.0 r.3)
        ]);
  }

  pub publish-memo : (place : ℕ) → memo l published_words place ≡ memo l words place
  publish-memo place = get_or-set_other words (bucket_at l (place_on l c steps)) (memo_at l place) (suc row) 0 (λ e. bucket_no_memo l (place_on l c steps) place inside (sym e))
