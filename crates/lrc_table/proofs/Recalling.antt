-- Steps on memo words, as callers see them.
use Rattle.std.proofs.Common.{◌≡◌, ◌≢◌, inl, inr, ⊎_elim, ℕ, zero, suc, List, refl, sym, ◌∙◌, subst, arith}
use Rattle.lrc_store.specs.Cells.{CellTree, nil, number, pair, IsWithin}
use Rattle.lrc_store.specs.Standing.{IsKnown, meant}
use Rattle.lrc_store.specs.Words.{Tells}
use Rattle.lrc_store.specs.Words.{Reads as StoreReads}
use Rattle.lrc_rule.specs.declared.layout.Layout.{Layout}
use Rattle.lrc_rule.specs.Layout.{IsLayout}
use Rattle.lrc_rule.specs.Rows.{Stands}
use Rattle.lrc_rule.specs.Memo.{Relation, Reach, IsMemoPair, IsMemoWord, MemoStep, pair_word}
use Rattle.lrc_rule.specs.Views.{View, now}
use Rattle.lrc_rule.specs.Steps.{IsCurrent, Memoes, noting}
use Rattle.lrc_table.specs.Passes.{TableView, PassView, IsOf}
use Rattle.lrc_table.specs.Standings.{standing, cells_below}
use Rattle.lrc_table.specs.Memo.{IsKnownPair, IsKnownWord}
use Rattle.lrc_table.proofs.Opened.{noted-current}
use Rattle.lrc_table.proofs.Follow.{handle-le}
use Rattle.lrc_table.proofs.Standings.{known-from}
use Rattle.lrc_table.proofs.Stores.{follows_reads, seen-from, seen-to, seen-parts, known_stands, stands_known, nil_meant}

pub IsOf-memoes : {M : Type 0} (p q : PassView) (t : TableView M) (entry : MemoStep) → q.table ≡ p.table → Memoes p.view q.view entry → IsOf p t → IsOf q t
IsOf-memoes p q t entry e m h = (e ∙ h.0, m.follows.layout ∙ h.1)

-- to callers it is only read
pub memo_reads : (v w : View) (entry : MemoStep) → IsCurrent v → IsLayout v.layout → Memoes v w entry → StoreReads (standing v) (standing w)
memo_reads v w entry c layout m = follows_reads (noting v entry) w (noted-current v entry c) layout m.follows m.made

-- ---- from rows to known handles

both_meant : (f : CellTree → CellTree → Type 0) (a b x y : CellTree) → a ≡ x → b ≡ y → f x y → f a b
both_meant f a b x y e g h = subst (λ (p : CellTree × CellTree). f p.0 p.1) (λ i. (sym e i, sym g i)) h

some_cell : (l : Layout) (words : List ℕ) (cell : CellTree) (row : ℕ) → Stands l words cell (suc row) → cell ≢ nil
some_cell l words cell row h e = let z : suc row ≡ 0 = subst (λ c. Stands l words c (suc row)) e h in omega (arith, z)

known_pair : (allows : Relation) (reach : Reach) (v : View) (word : ℕ) → IsCurrent v → IsLayout v.layout → IsMemoPair allows reach v.layout (now v) word → IsKnownPair allows reach (standing v) word
known_pair allows reach v word c layout p =
    let a = stands_known v c p.call (suc p.call_row) p.call_stands in
    let b = stands_known v c p.outcome (suc p.outcome_row) p.outcome_stands in
    record {
      call = suc p.call_row;
      outcome = suc p.outcome_row;
      word_is = p.word_is;
      some = omega arith;
      small = (let s = handle-le v.layout (now v) c.table p.outcome _ p.outcome_stands in let r = layout.rows in omega (arith, s, r));
      call_known = a.0;
      tells = subst (Tells (standing v) (suc p.outcome_row)) (sym b.1) (record {
        stands = known-from v.layout (now v) c.table p.outcome _ p.outcome_stands;
        seen = seen-parts v.layout (now v) c.table p.outcome _ p.outcome_stands;
      });
      allowed = both_meant allows _ _ p.call p.outcome a.1 b.1 p.allowed;
      reached = both_meant (λ x y. IsWithin (reach x y) (cells_below v.layout (now v) v.layout.rows)) _ _ p.call p.outcome a.1 b.1
          (λ cell h. let r = p.reached cell h in seen-from v.layout (now v) c.table cell (suc r.0) r.1 (some_cell v.layout (now v) cell r.0 r.1));
    }

pub known_word : (allows : Relation) (reach : Reach) (v : View) (word : ℕ) → IsCurrent v → IsLayout v.layout → IsMemoWord allows reach v.layout (now v) word → IsKnownWord allows reach (standing v) word
known_word allows reach v word c layout h = ⊎_elim inl (λ (p : IsMemoPair allows reach v.layout (now v) word). inr (known_pair allows reach v word c layout p)) h

-- ---- from known handles to rows

row_at : (l : Layout) (words : List ℕ) (cell : CellTree) (handle : ℕ) → Stands l words cell handle → cell ≢ nil → (row : ℕ) × Stands l words cell (suc row)
row_at l words cell (suc row) h some = (row, h)
row_at l words nil zero h some = absurd (some refl)
row_at l words (number n) zero h some = let e = h.named in absurd (omega (arith, e))
row_at l words (pair tag left right) zero h some = let e = h.named in absurd (omega (arith, e))

pub pair_from : (allows : Relation) (reach : Reach) (v : View) (call outcome word : ℕ) → IsCurrent v → ((one other : CellTree) → allows one other → (one ≢ nil) × (other ≢ nil)) → IsKnown (standing v) call → IsKnown (standing v) outcome
    → allows (meant (standing v) call) (meant (standing v) outcome) → IsWithin (reach (meant (standing v) call) (meant (standing v) outcome)) (cells_below v.layout (now v) v.layout.rows) → word ≡ pair_word call outcome
    → IsMemoPair allows reach v.layout (now v) word
pair_from allows reach v zero outcome word c filled h k may within e = absurd ((filled _ _ may).0 (nil_meant v c 0 refl))
pair_from allows reach v (suc call) zero word c filled h k may within e = absurd ((filled _ _ may).1 (nil_meant v c 0 refl))
pair_from allows reach v (suc call) (suc outcome) word c filled h k may within e = record {
  call = meant (standing v) (suc call);
  outcome = meant (standing v) (suc outcome);
  call_row = call;
  outcome_row = outcome;
  word_is = e;
  call_stands = known_stands v c (suc call) h;
  outcome_stands = known_stands v c (suc outcome) k;
  allowed = may;
  reached = λ cell x. let s = seen-to v.layout (now v) c.table cell (within cell x) in row_at v.layout (now v) cell s.0 s.1.0 s.1.1;
}
