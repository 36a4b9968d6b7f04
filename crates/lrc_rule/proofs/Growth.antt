-- What stands in the words of a table stays, as the words grow.
use Rattle.std.proofs.Common.{◌≡◌, inl, inr, ⊎_elim, ℕ, suc, ◌+◌, ◌<◌, List, [], ◌∷◌, ◌++◌, length, refl, sym, ◌∙◌, subst, arith}
use Rattle.lrc_store.specs.Cells.{CellTree, nil, number, pair}
use Rattle.lrc_rule.specs.declared.layout.Content.{Content}
use Rattle.lrc_rule.specs.declared.layout.Layout.{Layout}
use Rattle.lrc_rule.specs.Rows.{part, content, IsPublished, IsNumber, IsPair, Stands, Fits, IsPassed, Grows}
use Rattle.lrc_rule.specs.Memo.{Relation, Reach, memo, IsMemoPair, IsMemoWord, IsMemo}
use Rattle.lrc_rule.specs.Views.{AllGrow, AreMade}

pub content_is : (l : Layout) (a b : List ℕ) (row other : ℕ) → part l b row 0 ≡ part l a other 0 → part l b row 1 ≡ part l a other 1 → part l b row 2 ≡ part l a other 2 → content l b row ≡ content l a other
content_is l a b row other tag left right = λ i. record { tag = tag i; left = left i; right = right i }

pub Grows-refl : (l : Layout) (a : List ℕ) → Grows l a a
Grows-refl l a = record { buckets = λ place row h. h; parts = λ row k h small. refl }

module _ (l : Layout) (a b : List ℕ) (g : Grows l a b) where
  pub published-grown : (row : ℕ) → IsPublished l a row → IsPublished l b row
  published-grown row h = (h.0, g.buckets h.0 row h.1)

  pub content-grown : (row : ℕ) → IsPublished l a row → content l b row ≡ content l a row
  content-grown row h = content_is l a b row row (g.parts row 0 h (omega arith)) (g.parts row 1 h (omega arith)) (g.parts row 2 h (omega arith))

  pub Stands-grown : (cell : CellTree) (handle : ℕ) → Stands l a cell handle → Stands l b cell handle
  Stands-grown nil handle h = h
  Stands-grown (number n) handle h = record {
    row = h.row;
    named = h.named;
    published = published-grown h.row h.published;
    fit = subst (IsNumber n) (sym (content-grown h.row h.published)) h.fit;
    deep_as = g.parts h.row 3 h.published (omega arith) ∙ h.deep_as;
  }
  Stands-grown (pair tag left right) handle h = let f = h.fit in let c = content-grown h.row h.published in record {
    row = h.row;
    named = h.named;
    published = published-grown h.row h.published;
    fit = subst (IsPair tag (Stands l b left) (Stands l b right)) (sym c) (f.0, Stands-grown left _ f.1, Stands-grown right _ f.2, f.3, f.4);
    deep_as = g.parts h.row 3 h.published (omega arith) ∙ h.deep_as;
  }

  pub Fits-grown : (cell : CellTree) (c : Content) → Fits l a cell c → Fits l b cell c
  Fits-grown nil c h = h
  Fits-grown (number n) c h = h
  Fits-grown (pair tag left right) c h = (h.0, Stands-grown left _ h.1, Stands-grown right _ h.2, h.3, h.4)

  pub AreMade-grown : (row : ℕ) (cells : List CellTree) → AreMade l a row cells → AreMade l b row cells
  AreMade-grown row [] h = tt
  AreMade-grown row (cell ∷ cells) h = (Stands-grown cell _ h.0, AreMade-grown (suc row) cells h.1)

  pub IsPassed-grown : (c : Content) (steps : ℕ) → IsPassed l a c steps → IsPassed l b c steps
  IsPassed-grown c steps h i small =
      let o = h i small in
      (o.0, g.buckets _ o.0 o.1, λ e. o.2 (sym (content-grown o.0 (_, o.1)) ∙ e))

pub Grows-trans : (l : Layout) (a b c : List ℕ) → Grows l a b → Grows l b c → Grows l a c
Grows-trans l a b c f g = record {
  buckets = λ place row h. g.buckets place row (f.buckets place row h);
  parts = λ row k h small. g.parts row k (published-grown l a b f row h) small ∙ f.parts row k h small;
}

pub AllGrow-trans : (l : Layout) (past : List (List ℕ)) (a b : List ℕ) → AllGrow l past a → Grows l a b → AllGrow l past b
AllGrow-trans l [] a b h g = tt
AllGrow-trans l (before ∷ past) a b h g = (Grows-trans l before a b h.0 g, AllGrow-trans l past a b h.1 g)

pub AllGrow-append : (l : Layout) (past others : List (List ℕ)) (a : List ℕ) → AllGrow l past a → AllGrow l others a → AllGrow l (past ++ others) a
AllGrow-append l [] others a h k = k
AllGrow-append l (before ∷ past) others a h k = (h.0, AllGrow-append l past others a h.1 k)

pub AreMade-append : (l : Layout) (a : List ℕ) (row : ℕ) (cells : List CellTree) (cell : CellTree) → AreMade l a row cells → Stands l a cell (suc (row + length cells)) → AreMade l a row (cells ++ cell ∷ [])
AreMade-append l a row [] cell h k = (subst (λ n. Stands l a cell (suc n)) (let e : row + 0 ≡ row = omega arith in e) k, tt)
AreMade-append l a row (first ∷ cells) cell h k =
    (h.0, AreMade-append l a (suc row) cells cell h.1 (subst (λ n. Stands l a cell (suc n)) (let e : row + suc (length cells) ≡ suc row + length cells = omega arith in e) k))

-- ---- memo words

module _ (allows : Relation) (reach : Reach) (l : Layout) (a b : List ℕ) (g : Grows l a b) where
  pub IsMemoPair-grown : (word : ℕ) → IsMemoPair allows reach l a word → IsMemoPair allows reach l b word
  IsMemoPair-grown word h = record {
    call = h.call;
    outcome = h.outcome;
    call_row = h.call_row;
    outcome_row = h.outcome_row;
    word_is = h.word_is;
    call_stands = Stands-grown l a b g h.call _ h.call_stands;
    outcome_stands = Stands-grown l a b g h.outcome _ h.outcome_stands;
    allowed = h.allowed;
    reached = λ cell c. let r = h.reached cell c in (r.0, Stands-grown l a b g cell _ r.1);
  }

  pub IsMemoWord-grown : (word : ℕ) → IsMemoWord allows reach l a word → IsMemoWord allows reach l b word
  IsMemoWord-grown word h = ⊎_elim inl (λ p. inr (IsMemoPair-grown word p)) h

  -- memo words that are as they were say what they said
  pub IsMemo-grown : ((place : ℕ) → place < l.memo → memo l b place ≡ memo l a place) → IsMemo allows reach l a → IsMemo allows reach l b
  IsMemo-grown same m place small = subst (IsMemoWord allows reach l b) (sym (same place small)) (IsMemoWord-grown (memo l a place) (m place small))
