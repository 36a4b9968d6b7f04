-- What callers see of a pass and a table, and what is inside.
use Rattle.std.specs.Prelude.{Contains}
use Rattle.std.proofs.Common.{◌≡◌, inl, inr, ⊎_elim, ℕ, zero, suc, refl, ◌+◌, ◌^◌, ◌<◌, List, [], ◌∷◌, length, get_or, sym, ◌∙◌, ap, subst, arith, length-append}
use Rattle.lrc_rule.specs.declared.layout.Layout.{Layout}
use Rattle.lrc_store.specs.Cells.{CellTree}
use Rattle.lrc_rule.specs.Layout.{IsLayout, IsBucket, IsBucketOrPart, bucket_at, part_at}
use Rattle.lrc_rule.specs.Memo.{Relation, Reach, IsMemoPair, IsMemoWord, MemoStep}
use Rattle.lrc_rule.specs.Rows.{IsTable}
use Rattle.lrc_rule.specs.Views.{View, now}
use Rattle.lrc_rule.specs.Steps.{IsCurrent, Follows, Memoes, noting, IsMade, Publishes, Exchanges}
use Rattle.lrc_table.specs.Passes.{TableView, PassView, IsOf, IsPass, IsReady}

pub same_id : {M : Type 0} (a b : PassView) (s t : TableView M) → a ≡ b → s ≡ t → IsOf b t → a.table ≡ s.id
same_id a b s t e f h = ap (λ (p : PassView). p.table) e ∙ (h.0 ∙ sym (ap (λ x. x.id) f))

pub same_layout : {M : Type 0} (a b : PassView) (s t : TableView M) → a ≡ b → s ≡ t → IsOf b t → a.view.layout ≡ s.layout
same_layout a b s t e f h = ap (λ (p : PassView). p.view.layout) e ∙ (h.1 ∙ sym (ap (λ x. x.layout) f))

-- a bucket and a part of a row are that in an equal layout too
pub bucket_of : (l m : Layout) (place word : ℕ) → l ≡ m → place < m.buckets → word ≡ bucket_at m place → IsBucketOrPart l word
bucket_of l m place word e inside at = subst (λ n. IsBucketOrPart n word) (sym e) (inl (place, inside, at))

pub part_of : (l m : Layout) (row k word : ℕ) → l ≡ m → row < m.rows → k < 4 → word ≡ part_at m row k → IsBucketOrPart l word
part_of l m row k word e there small at = subst (λ n. IsBucketOrPart n word) (sym e) (inr (row, k, there, small, at))

-- what is known of a pass stays, as a step on a memo word is noted
pub noted-current : (v : View) (entry : MemoStep) → IsCurrent v → IsCurrent (noting v entry)
noted-current v entry c = record { live = c.live; past = c.past; table = c.table; range = c.range }

pub IsPass-memoes : {S : Type 0} (v w : View) (entry : MemoStep) (carried held : List (ℕ × S)) (first quota count : ℕ) → IsPass v carried first quota count → Memoes v w entry → held ≡ carried → IsPass w held first quota count
IsPass-memoes v w entry carried held first quota count h m none = let f = m.follows in record {
  current = f.current;
  layout = subst IsLayout (sym f.layout) h.layout;
  none = none ∙ h.none;
  first_is = f.from ∙ h.first_is;
  quota_is = f.quota ∙ h.quota_is;
  count_is = ap length m.made ∙ h.count_is;
}

-- where the meaning is told in other words, the memo words say the same
pub IsMemoWord-as : (allows allows' : Relation) (reach reach' : Reach) (l : Layout) (words : List ℕ) (word : ℕ) → ((call outcome : CellTree) → allows call outcome → allows' call outcome) → reach' ≡ reach
    → IsMemoWord allows reach l words word → IsMemoWord allows' reach' l words word
IsMemoWord-as allows allows' reach reach' l words word f e h = ⊎_elim inl (λ (p : IsMemoPair allows reach l words word). inr (record {
  call = p.call;
  outcome = p.outcome;
  call_row = p.call_row;
  outcome_row = p.outcome_row;
  word_is = p.word_is;
  call_stands = p.call_stands;
  outcome_stands = p.outcome_stands;
  allowed = f p.call p.outcome p.allowed;
  reached = λ cell c. p.reached cell (subst (λ (r : Reach). Contains (r p.call p.outcome) cell) e c);
})) h

-- a pass stays a pass where a step made no row
pub IsPass-follows : {S : Type 0} (v w : View) (carried held : List (ℕ × S)) (first quota count : ℕ) → IsPass v carried first quota count → Follows v w → w.owned.made ≡ v.owned.made → held ≡ carried
    → IsPass w held first quota count
IsPass-follows v w carried held first quota count h f made none = record {
  current = f.current;
  layout = subst IsLayout (sym f.layout) h.layout;
  none = none ∙ h.none;
  first_is = f.from ∙ h.first_is;
  quota_is = f.quota ∙ h.quota_is;
  count_is = ap length made ∙ h.count_is;
}

-- where the row was published there is one more
pub IsPass-publishes : {S : Type 0} (v w : View) (carried held : List (ℕ × S)) (first quota count found word place : ℕ) → IsPass v carried first quota count → Exchanges v w word found → found ≡ 0 → IsReady v place → held ≡ carried
    → IsPass w held first quota (count + 1)
IsPass-publishes v w carried held first quota count found word place h x hit ready none =
    let made : IsMade v w ready.cell = subst (Publishes v w word) hit x.publishes ready.cell ready.drafted in
    let f = x.follows in record {
      current = f.current;
      layout = subst IsLayout (sym f.layout) h.layout;
      none = none ∙ h.none;
      first_is = f.from ∙ h.first_is;
      quota_is = f.quota ∙ h.quota_is;
      count_is = (let e = ap length made.made in let more = length-append v.owned.made (ready.cell ∷ []) in let was = h.count_is in omega (arith, e, more, was));
    }

pub IsPass-lost : {S : Type 0} (v w : View) (carried held : List (ℕ × S)) (first quota count found word : ℕ) → IsPass v carried first quota count → Exchanges v w word found → ¬ (found ≡ 0) → held ≡ carried
    → IsPass w held first quota count
IsPass-lost v w carried held first quota count found word h x miss none = IsPass-follows v w carried held first quota count h x.follows (kept found miss x.publishes) none
  where
    kept : (n : ℕ) → ¬ (n ≡ 0) → Publishes v w word n → w.owned.made ≡ v.owned.made
    kept zero m p = absurd (m refl)
    kept (suc n) m p = p.2

-- a word of a bucket is at most the number of rows
pub bucket-small : (l : Layout) (words : List ℕ) (word found : ℕ) → IsTable l words → IsLayout l → IsBucket l word → found ≡ get_or words word 0 → found < 2 ^ 32
bucket-small l words word found t h is e = let w = t.within is.0 is.1 in let r = h.rows in let at = ap (λ n. get_or words n 0) is.2 in omega (arith, w, r, e, at)

pub exchanged-small : (v w : View) (word found : ℕ) → IsLayout v.layout → IsBucket v.layout word → Exchanges v w word found → found < 2 ^ 32
exchanged-small v w word found h is x = by_found found x.publishes
  where
    by_found : (n : ℕ) → Publishes v w word n → n < 2 ^ 32
    by_found zero p = omega arith
    by_found (suc n) p = bucket-small w.layout (now w) word (suc n) x.follows.current.table (subst IsLayout (sym x.follows.layout) h) (subst (λ l. IsBucket l word) (sym x.follows.layout) is) p.0
