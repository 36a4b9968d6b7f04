-- A pass that owns all rows of a new table knows no cell that is in it for good.
use Rattle.std.proofs.Common.{◌≡◌, ℕ, zero, suc, ◌+◌, ◌<◌, Bool, true, false, cond, ◌||◌, nat_eq, refl, sym, ◌∙◌, ap, subst, arith, ne_eqb, List, [], ◌∷◌, ◌++◌, length, get_or, replicate, ◌*◌, Option, Some, None}
use Rattle.std.specs.Prelude.{option_to_list}
use Rattle.lrc_store.specs.Cells.{CellTree}
use Rattle.lrc_rule.specs.declared.layout.Layout.{Layout}
use Rattle.lrc_rule.specs.Layout.{bucket_at, word_count}
use Rattle.lrc_rule.specs.Rows.{bucket}
use Rattle.lrc_rule.specs.Views.{View, opening_view, now}
use Rattle.lrc_table.specs.Standings.{is_bucketed, cell_at, cells_below, standing}
use Rattle.std.proofs.Math.Nat.{mul_comm}
use Rattle.lrc_table.specs.Passes.{TableView, PassView}
use Rattle.lrc_threads.specs.Halves.{IsBlank, IsReady}

module _ (l : Layout) (words : List ℕ) (zeros : (place : ℕ) → bucket l words place ≡ 0) where
  none-bucketed : (row places : ℕ) → is_bucketed l words (suc row) places ≡ false
  none-bucketed row zero = refl
  none-bucketed row (suc places) =
      let apart : nat_eq 0 (suc row) ≡ false = ne_eqb 0 (suc row) (λ e. absurd (omega (arith, e))) in
      ap (λ (n : ℕ). nat_eq n (suc row) || is_bucketed l words (suc row) places) (zeros places) ∙ ap (λ (b : Bool). b || is_bucketed l words (suc row) places) apart ∙ none-bucketed row places

  none-found : (fuel row : ℕ) → cell_at l words fuel (suc row) ≡ None
  unfolding cell_at
  none-found zero row = refl
  none-found (suc fuel) row = let empty = none-bucketed row l.buckets in simp (empty)

  none-below : (row : ℕ) → cells_below l words row ≡ []
  none-below zero = refl
  none-below (suc row) = let empty = none-found l.rows row in let rest = none-below row in simp (empty, rest)

none-at : (n i : ℕ) → get_or (replicate {A = ℕ} n 0) i 0 ≡ 0
none-at zero i = refl
none-at (suc n) zero = refl
none-at (suc n) (suc i) = none-at n i

pub opening-blank : (l : Layout) → IsBlank (standing (opening_view l))
opening-blank l = record { made = refl; seen = ap (λ (cells : List CellTree). Some cells) (none-below l (now (opening_view l)) (λ place. none-at (word_count l) (bucket_at l place)) l.rows) }

-- the pass of a new table is ready for all sessions
pub opening-ready : {M : Type 0} (rows count : ℕ) (table : TableView M) (pass : PassView) → table.layout.rows ≡ count * rows → pass.table ≡ table.id → pass.view ≡ opening_view table.layout → IsReady rows table pass count
opening-ready rows count table pass size of is = record {
  is_of = (of, ap (λ (v : View). v.layout) is);
  blank = subst (λ (v : View). IsBlank (standing v)) (sym is) (opening-blank table.layout);
  quota = ap (λ (v : View). v.owned.quota) is ∙ size ∙ times count rows;
}
  where
    times : (m n : ℕ) → m * n ≡ n * m
    times m n = mul_comm m n
